-- A new key gets the next place, which nobody pins, or one that isn't in use.
use Rattle.std.proofs.Common.{rules, ◌≡◌, ◌≤◌, ◌+◌, None, Some, length, inr, ap, ◌∙◌, arith}
use Rattle.mdl_core.specs.Cores.{Core, index_of, unused_place}
use Rattle.mdl_space.specs.GivenPlaces.{some_session_pins}
use Rattle.mdl_space.proofs.PlaceLemmas.{given-anew, next-unpinned, unused-told, unused-unpinned}
use Rattle.mdl_space.proofs.core_space.CoreSpace.resolve.Goals as goal

pub give_place-requires-clause-unused : goal.give_place-requires-clause-unused
give_place-requires-clause-unused c =
    let core : Core = c.args.self.now in
    let next : c.place_count-place.result + 1 ≡ length core.books + 1 = search rules in
    ap (λ place. some_session_pins place core) next ∙ next-unpinned core c.requires.1.tied

pub give_place-requires-2-clause-least : goal.give_place-requires-2-clause-least
give_place-requires-2-clause-least c =
    let found : unused_place c.args.self.now ≡ Some c.in-Some-unused_place.place = search rules in
    (unused-told c.args.self.now c.in-Some-unused_place.place found).0

pub give_place-requires-2-clause-most : goal.give_place-requires-2-clause-most
give_place-requires-2-clause-most c =
    let found : unused_place c.args.self.now ≡ Some c.in-Some-unused_place.place = search rules in
    let most = (unused-told c.args.self.now c.in-Some-unused_place.place found).1 in
    omega (arith, most)

pub give_place-requires-2-clause-places : goal.give_place-requires-2-clause-places
give_place-requires-2-clause-places c =
    let core : Core = c.args.self.now in
    let found : unused_place core ≡ Some c.in-Some-unused_place.place = search rules in
    let most = (unused-told core c.in-Some-unused_place.place found).1 in
    let fewest : length core.books ≤ core.places = search rules in
    omega (arith, most, fewest)

pub give_place-requires-2-clause-unused : goal.give_place-requires-2-clause-unused
give_place-requires-2-clause-unused c =
    let core : Core = c.args.self.now in
    let found : unused_place core ≡ Some c.in-Some-unused_place.place = search rules in
    unused-unpinned core c.in-Some-unused_place.place (unused-told core c.in-Some-unused_place.place found).2

pub returns : goal.returns
returns c =
    let core : Core = c.args.self.now in
    let found : unused_place core ≡ Some c.in-Some-unused_place.place = search rules in
    let none : index_of c.args.key.now core.books ≡ None = search rules in
    let full : core.places ≤ length core.books = search rules in
    inr (given-anew core c.give_place-2.new.self c.args.who c.args.key.now c.in-Some-unused_place.place none full found c.in_ok-give_place-2.ensures.given)

-- Where the index has no number, no ticket is at the place.
use Rattle.std.proofs.Common.{◌≡◌, ◌≤◌, length, sym, ◌∙◌, arith}
use Rattle.std.proofs.lemmas.Bool.Decides.{nat_tests}
use Rattle.mdl_context.specs.Contexts.{AreRising}
use Rattle.mdl_context.specs.Holdings.{numbers_among}
use Rattle.mdl_context.specs.Terms.{meets}
use Rattle.mdl_context.proofs.PlaceLemmas.{meets-at, from-start, from-end}
use Rattle.mdl_context.proofs.holdings.Holdings.sufficient.Goals as goal

pub returns-then-is_empty : goal.returns-then-is_empty
returns-then-is_empty c =
    let kept = c.self.inside.tickets.items in
    let place = c.args.place in
    let rising : AreRising kept = rw (← c.self.view_is) at c.requires in
    let same : c.numbers.result.now ≡ numbers_among place kept = c.numbers.ensures ∙ c.self.invariant.0 place in
    let none : length c.numbers.result.now ≤ 0 = grind (arith, nat_tests) in
    rw (← c.self.view_is)
    (sym (from-end kept place (meets place c.args.terms.now) rising _ same 0 none) ∙ from-start kept place (meets place c.args.terms.now) (meets-at place c.args.terms.now))

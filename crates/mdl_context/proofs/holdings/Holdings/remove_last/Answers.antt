-- The index loses the last number at the place of the last ticket, and the place is marked.
use Rattle.std.proofs.Common.{◌≡◌, ℕ, ◌+◌, ◌-◌, List, [], ◌∷◌, ◌++◌, length, take, ap, subst, ◌∙◌, arith, length-append}
use Rattle.std.specs.Vec.{vec_capacity}
use Rattle.mdl_context.specs.declared.kept.Kept.{Kept}
use Rattle.mdl_context.specs.Holdings.{IsIndexOf}
use Rattle.mdl_context.proofs.PlaceLemmas.{index-fewer, room-stays}
use Rattle.mdl_context.specs.Indexes.{ticket_numbers, without_last}
use Rattle.mdl_context.proofs.SpareLemmas.{marked-one}
use Rattle.mdl_context.proofs.holdings.Holdings.remove_last.Goals as goal

pub invariant_of-self : goal.invariant_of-self
invariant_of-self c =
    let t = c.unwrap-ticket.result in
    let kept = c.self.inside.tickets.items in
    let rest = c.pop.new.self.items in
    let parted : kept ≡ rest ++ t ∷ [] = rw c.unwrap-ticket.ensures at c.pop.ensures.items in
    let index = subst (λ (xs : List Kept). IsIndexOf xs c.self.inside.by_place) parted c.self.invariant.0 in
    let less = index-fewer rest t c.self.inside.by_place c.remove_last.new.self index c.remove_last.ensures.numbers in
    let fewer : length rest + 1 ≡ length kept = omega (arith, ap length parted, length-append rest (t ∷ [])) in
    let room = room-stays c.self.inside.wait c.self.inside.by_place c.remove_last.new.self (length kept) (length rest) (vec_capacity c.self.inside.tickets) fewer c.remove_last.ensures.stays c.self.invariant.1 in (
      less,
      rw c.pop.ensures.capacity room,
      marked-one c.self.inside.known c.self.inside.by_place c.remove_last.new.self c.self.inside.wait c.self.inside.spare c.mark.new.self t.place
          (without_last (ticket_numbers t.place c.self.inside.by_place)) c.remove_last.ensures.numbers c.mark.ensures.here c.mark.ensures.others c.self.invariant.2,
    )

pub returns-clause-kept : goal.returns-clause-kept
returns-clause-kept c =
    rw (← c.self.view_is) (c.pop.ensures.rest ∙ ap (λ (n : ℕ). take (n - 1) c.self.inside.tickets.items) c.self.inside.tickets.ok.0)

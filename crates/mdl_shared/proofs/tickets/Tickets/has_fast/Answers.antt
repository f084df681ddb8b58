-- The fast tickets are counted.
use Rattle.std.specs.Prelude.{filter}
use Rattle.mdl_shared.proofs.Lemmas.{ap, length-filter, length-map, nat_lt, sym, with_note, ◌∙◌}
use Rattle.mdl_shared.proofs.tickets.Tickets.has_fast.Goals as goal

pub returns : goal.returns
returns c =
    let xs = c.self.inside.gained.items in
    let counted = c.self.invariant.all_fast ∙ sym (length-map (filter (λ t. t.fast) xs) (with_note c.self.inside.places.items) ∙ length-filter (λ t. t.fast) xs) in
    rw (← c.self.view_is) (ap (nat_lt 0) counted)

-- The notes of places are changed so.
use Rattle.std.proofs.Common.{ℕ, ◌<◌, count_by, not}
use Rattle.mdl_shared.proofs.Lemmas.{is_at_place, notes}
use Rattle.mdl_shared.proofs.tickets.Tickets.note_reached.Goals as goal

pub returns-clause-noted : goal.returns-clause-noted
returns-clause-noted c =
    let ps = c.self.inside.places.items in
    let xs = c.self.inside.gained.items in
    let noted = λ (q : ℕ) (some : 0 < count_by (is_at_place q) xs). c.note_inside.ensures.noted q (rw (c.self.invariant.counted q) some) in
    rw (← c.self.view_is) (
      notes c.args.place c.args.version ps c.note_inside.new.places.items (λ t. not t.fast) xs noted,
      notes c.args.place c.args.version ps c.note_inside.new.places.items (λ t. t.fast) xs noted,
    )

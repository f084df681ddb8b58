-- The tickets of each place are counted, and all have its note.
use Rattle.std.proofs.Common.{◌==◌, if◌then◌else◌, ◌∙◌, sym, ap, None}
use Rattle.mdl_shared.proofs.Lemmas.{first_there, noted_in}
use Rattle.mdl_shared.proofs.tickets.Tickets.note_of.Goals as goal

pub returns : goal.returns
returns c =
    rw (← c.self.view_is) (rw c.deref.ensures.value at c.note_counted.ensures
    ∙ ap (λ n. if n == 0 then None else noted_in c.args.place c.self.inside.places.items) (c.self.invariant.counted c.args.place)
    ∙ sym (first_there c.args.place c.self.inside.places.items c.self.inside.gained.items))

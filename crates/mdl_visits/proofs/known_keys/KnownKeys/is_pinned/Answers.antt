-- The mark of a place says whether it is pinned.
use Rattle.std.proofs.Common.{is_some, sym, ap, ◌∙◌}
use Rattle.mdl_visits.proofs.Pins.{pin_found}
use Rattle.mdl_visits.proofs.known_keys.KnownKeys.is_pinned.Goals as goal

pub returns : goal.returns
returns c =
    rw (← c.self.view_is) (c.is_some.ensures ∙ ap is_some (rw c.deref.ensures.value at c.kind_in.ensures)
    ∙ sym (pin_found c.args.place c.self.inside.marks.items))

-- The mark of a pinned place has the kind of its lock.
use Rattle.std.proofs.Common.{map, ◌∙◌}
use Rattle.mdl_visits.specs.OwnKeys.{known_of}
use Rattle.mdl_visits.proofs.KeyLists.{pinned_kind}
use Rattle.mdl_visits.proofs.Pins.{kind_found}
use Rattle.mdl_visits.proofs.known_keys.KnownKeys.kind_pinned.Goals as goal

pub returns : goal.returns
returns c =
    let inside = c.self.inside in
    rw (← c.self.view_is) (rw c.deref.ensures.value at c.kind_in.ensures
    ∙ kind_found c.args.place inside.marks.items (map known_of inside.places.entries)
    (pinned_kind inside.places.entries inside.marks.items c.self.invariant.kinds c.self.invariant.pinned c.args.place))

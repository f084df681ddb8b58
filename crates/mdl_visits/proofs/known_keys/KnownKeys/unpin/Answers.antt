-- The mark of the place is no pin any more.
use Rattle.std.proofs.Common.{ℕ, ◌≤◌, List, length, map, refl, ap, arith}
use Rattle.indexmap.specs.IndexMap.{spare}
use Rattle.mdl_visits.specs.declared.known_keys.KnownKeys.TheInside.{Inside}
use Rattle.mdl_visits.specs.KnownLists.{KnownList}
use Rattle.mdl_visits.specs.OwnKeys.{known_of, unpinned}
use Rattle.mdl_visits.proofs.Pins.{pins_less, pins_past}
use Rattle.mdl_visits.proofs.known_keys.KnownKeys.unpin.Goals as goal

-- the list with these pins
abbrev with_pins : Inside → List ℕ → KnownList
with_pins inside pins = record { known = map known_of inside.places.entries; room = spare inside.places; reach = length inside.indexes.items; pins = pins }

pub returns-then-place-len : goal.returns-then-place-len
returns-then-place-len c =
    let less = pins_less c.args.place c.self.inside.marks.items (unpinned c.index_mut.result.now) refl in
    record { pins = rw (← c.self.view_is) (ap (with_pins c.self.inside) less) }

pub returns-else-place-len : goal.returns-else-place-len
returns-else-place-len c =
    let past : length c.self.inside.marks.items ≤ c.args.place = omega (arith, c.if-place-len.false, c.len.ensures) in
    record { pins = rw (← c.self.view_is) (ap (with_pins c.self.inside) (pins_past c.args.place c.self.inside.marks.items past)) }

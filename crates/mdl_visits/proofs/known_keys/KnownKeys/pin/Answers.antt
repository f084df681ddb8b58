-- The place has an index, and so a mark, which becomes a pin.
use Rattle.std.proofs.Common.{ℕ, ◌≤◌, true, List, length, length-set, map, refl, ap, arith}
use Rattle.indexmap.specs.IndexMap.{spare}
use Rattle.mdl_visits.specs.declared.known_keys.KnownKeys.TheInside.{Inside}
use Rattle.mdl_visits.specs.declared.known_keys.Mark.{Mark}
use Rattle.mdl_visits.specs.KnownLists.{KnownList}
use Rattle.mdl_visits.specs.OwnKeys.{known_of}
use Rattle.mdl_visits.proofs.KeyLists.{kinds_marked, mark_within, pins_marked, place_within}
use Rattle.mdl_visits.proofs.Pins.{pins_more}
use Rattle.mdl_visits.proofs.known_keys.KnownKeys.pin.Goals as goal

-- the list with these pins
abbrev with_pins : Inside → List ℕ → KnownList
with_pins inside pins = record { known = map known_of inside.places.entries; room = spare inside.places; reach = length inside.indexes.items; pins = pins }

-- the mark of a place that is pinned
abbrev as_pin : Mark → Mark
as_pin mark = record mark { pinned = true }

pub index_mut-requires : goal.index_mut-requires
index_mut-requires c =
    let inside = c.self.inside in
    let within = place_within c.args.place inside.places.entries inside.indexes.items c.self.invariant.indexed (rw (← c.self.view_is) at c.requires.known) in
    let enough : length inside.indexes.items ≤ length inside.marks.items = c.self.invariant.enough in
    omega (arith, within, enough)

pub invariant_of-self : goal.invariant_of-self
invariant_of-self c =
    let inside = c.self.inside in
    let known = rw (← c.self.view_is) at c.requires.known in
    let within = place_within c.args.place inside.places.entries inside.indexes.items c.self.invariant.indexed known in
    let enough : length inside.indexes.items ≤ length inside.marks.items = c.self.invariant.enough in
    let old = c.index_mut.result.now in
    let there = mark_within c.args.place inside.marks.items old (omega (arith, within, enough)) c.index_mut.ensures.value in record {
      indexed = c.self.invariant.indexed;
      narrow = c.self.invariant.narrow;
      kinds = kinds_marked inside.places.entries inside.marks.items c.args.place old (as_pin old) c.self.invariant.kinds there refl;
      pinned = pins_marked inside.places.entries inside.marks.items c.args.place (as_pin old) c.self.invariant.pinned (λ pin. known);
      enough = rw (length-set inside.marks.items c.args.place (as_pin old)) enough;
    }

pub returns : goal.returns
returns c =
    let inside = c.self.inside in
    let within = place_within c.args.place inside.places.entries inside.indexes.items c.self.invariant.indexed (rw (← c.self.view_is) at c.requires.known) in
    let enough : length inside.indexes.items ≤ length inside.marks.items = c.self.invariant.enough in
    let more = pins_more c.args.place inside.marks.items (as_pin c.index_mut.result.now) (omega (arith, within, enough)) refl in
    record { pins = rw (← c.self.view_is) (ap (with_pins inside) more) }

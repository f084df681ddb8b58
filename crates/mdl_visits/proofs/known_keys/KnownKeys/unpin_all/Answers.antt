-- No mark is a pin any more, and each has the kind that it had.
use Rattle.std.proofs.Common.{◌≡◌, ℕ, ◌≤◌, List, length, map, sym, ap, subst, ◌∙◌, arith}
use Rattle.std.proofs.lemmas.List.{length-map, with_items_is}
use Rattle.indexmap.specs.IndexMap.{spare}
use Rattle.mdl_calls.specs.Marks.{marked_from}
use Rattle.mdl_visits.proofs.KeyLists.{kinds_unpinned, pins_unpinned}
use Rattle.mdl_visits.proofs.Pins.{pins_none}
use Rattle.mdl_visits.specs.KnownLists.{KnownList}
use Rattle.mdl_visits.specs.OwnKeys.{AreKinds, ArePinsKnown, known_of, pinned_of, unpinned}
use Rattle.mdl_visits.specs.declared.known_keys.KnownKeys.TheInside.{Inside}
use Rattle.mdl_visits.specs.declared.known_keys.Mark.{Mark}
use Rattle.mdl_visits.proofs.known_keys.KnownKeys.unpin_all.Goals as goal

-- the list with these pins
abbrev with_pins : Inside → List ℕ → KnownList
with_pins inside pins = record { known = map known_of inside.places.entries; room = spare inside.places; reach = length inside.indexes.items; pins = pins }

pub invariant_of-self : goal.invariant_of-self
invariant_of-self c =
    let inside = c.self.inside in
    let marks = inside.marks.items in
    let is : c.unpin_each.new.marks ≡ map unpinned marks = c.unpin_each.ensures ∙ ap (map unpinned) c.deref_mut.ensures.value in
    let long = ap length is ∙ length-map marks unpinned in
    let now = with_items_is inside.marks c.unpin_each.new.marks (omega (arith, long)) ∙ is in
    let enough : length inside.indexes.items ≤ length marks = c.self.invariant.enough in record {
      indexed = c.self.invariant.indexed;
      narrow = c.self.invariant.narrow;
      kinds = subst (AreKinds inside.places.entries) (sym now) (kinds_unpinned inside.places.entries marks c.self.invariant.kinds);
      pinned = subst (ArePinsKnown inside.places.entries) (sym now) (pins_unpinned inside.places.entries marks);
      enough = subst (λ (n : ℕ). length inside.indexes.items ≤ n) (sym (ap length now ∙ length-map marks unpinned)) enough;
    }

pub returns : goal.returns
returns c =
    let inside = c.self.inside in
    let marks = inside.marks.items in
    let is : c.unpin_each.new.marks ≡ map unpinned marks = c.unpin_each.ensures ∙ ap (map unpinned) c.deref_mut.ensures.value in
    let long = ap length is ∙ length-map marks unpinned in
    let now = with_items_is inside.marks c.unpin_each.new.marks (omega (arith, long)) ∙ is in
    record { pins = rw (← c.self.view_is) (ap (λ (ms : List Mark). with_pins inside (marked_from 0 (pinned_of ms))) now ∙ ap (with_pins inside) (pins_none 0 marks)) }

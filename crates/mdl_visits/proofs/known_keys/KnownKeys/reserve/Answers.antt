-- What stood under a place stays there, and there are marks for all indexes.
use Rattle.std.proofs.Common.{◌≤◌, length, length-append, replicate, ap, ◌∙◌, arith}
use Rattle.mdl_calls.specs.Marks.{marked_from}
use Rattle.mdl_visits.proofs.KeyLists.{kinds_grown, pins_grown}
use Rattle.mdl_visits.proofs.Pins.{pins_still}
use Rattle.mdl_visits.specs.OwnKeys.{no_mark, pinned_of}
use Rattle.mdl_visits.proofs.known_keys.KnownKeys.reserve.Goals as goal

pub invariant_of-self-2 : goal.invariant_of-self-2
invariant_of-self-2 c =
    let entries = c.self.inside.places.entries in
    let marks = c.self.inside.marks.items in
    let grown = c.reach_marks.ensures.grown in
    let more = ap length grown.1 ∙ length-append marks (replicate grown.0 no_mark) in
    let enough : length c.self.inside.indexes.items ≤ length marks = c.self.invariant.enough in record {
      indexed = λ at e stands. c.reach.ensures.same e.1 at (c.self.invariant.indexed at e (rw c.in_ok-reserve.ensures.entries at stands));
      narrow = c.reach.ensures.narrow;
      kinds = rw (c.in_ok-reserve.ensures.entries, grown.1) (kinds_grown entries marks grown.0 c.self.invariant.kinds);
      pinned = rw (c.in_ok-reserve.ensures.entries, grown.1) (pins_grown entries marks grown.0 c.self.invariant.pinned);
      enough = c.reach.ensures.no_more (length c.reach_marks.new.marks.items) c.in_ok-reach_marks.ensures.reach (omega (arith, more, enough));
    }

pub returns-in_err-reach_marks-clause-pins : goal.returns-in_err-reach_marks-clause-pins
returns-in_err-reach_marks-clause-pins c =
    let grown = c.reach_marks.ensures.grown in
    rw (← c.self.view_is) (ap (λ ms. marked_from 0 (pinned_of ms)) grown.1 ∙ pins_still grown.0 c.self.inside.marks.items)

pub returns-clause-pins : goal.returns-clause-pins
returns-clause-pins c =
    let grown = c.reach_marks.ensures.grown in
    rw (← c.self.view_is) (ap (λ ms. marked_from 0 (pinned_of ms)) grown.1 ∙ pins_still grown.0 c.self.inside.marks.items)

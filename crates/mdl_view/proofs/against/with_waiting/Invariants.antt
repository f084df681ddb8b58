-- Those of the tickets so far were noted.
use Rattle.std.proofs.Common.{◌≡◌, ℕ, ◌||◌, take}
use Rattle.std.specs.List.{list_any}
use Rattle.mdl_view.specs.GoingOn.{is_gone}
use Rattle.mdl_view.specs.SessionSets.{IsFew, has, waits_apart, some_apart, taken_by}
use Rattle.mdl_view.proofs.against.with_waiting.Given as goal

abbrev pub invariant-loop-pending : goal.invariant-loop-pending
invariant-loop-pending l = record {
  sorted_out : IsFew l.noted;
  apart : (one other : ℕ) → some_apart l.noted one other
      ≡ (some_apart l.initial.noted one other
      || list_any (waits_apart l.lock (is_gone (taken_by l.act) (has l.ended)) l.mode one other) (take l.pending-index l.lock.waiting));
}

-- Those of the tickets so far were noted.
use Rattle.std.proofs.Common.{◌≡◌, ℕ, ◌||◌, take}
use Rattle.std.specs.List.{list_any}
use Rattle.mdl_view.specs.GoingOn.{is_gone}
use Rattle.mdl_view.specs.SessionSets.{IsFew, has, holds_apart, some_apart, taken_by}
use Rattle.mdl_view.proofs.against.with_granted.Given as goal

abbrev pub invariant-loop-held : goal.invariant-loop-held
invariant-loop-held l = record {
  sorted_out : IsFew l.noted;
  apart : (one other : ℕ) → some_apart l.noted one other
      ≡ (some_apart l.initial.noted one other
      || list_any (holds_apart l.lock (is_gone (taken_by l.act) (has l.ended)) l.mode one other) (take l.held-index l.lock.granted));
}

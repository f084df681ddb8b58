-- Those at the locks so far were found.
use Rattle.std.proofs.Common.{◌≡◌, ℕ, true, false, take}
use Rattle.mdl_view.specs.Passes.{frees_some}
use Rattle.mdl_view.specs.SessionSets.{has}
use Rattle.mdl_view.proofs.ways_out.sole_blockers.Given as goal

abbrev pub invariant-loop-lock : goal.invariant-loop-lock
invariant-loop-lock l = record {
  some : (session : ℕ) → frees_some (take l.lock-index l.locks) session ≡ true → has l.found session ≡ true;
  rest : l.found.rest ≡ false;
}

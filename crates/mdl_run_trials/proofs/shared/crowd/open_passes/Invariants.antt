-- There is room for the sessions of the passes that are left.
use Rattle.std.proofs.Common.{◌≡◌, ◌+◌, length}
use Rattle.mdl_shared.specs.Passes.{ArePasses, manager_table}
use Rattle.mdl_run_trials.proofs.shared.crowd.open_passes.Given as goal

abbrev pub invariant-loop-passes : goal.invariant-loop-passes
invariant-loop-passes g l = record {
  room : length l.sessions.items + length l.passes.items ≡ l.sessions.cap;
  theirs : ArePasses (manager_table l.manager) l.passes.items;
}

abbrev pub decreases-loop-passes : goal.decreases-loop-passes
decreases-loop-passes g l = goal.left-loop-passes g l

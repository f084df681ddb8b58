-- The pass stays one of this space's.
use Rattle.std.proofs.Common.{◌≡◌}
use Rattle.mdl_shared.specs.Passes.{manager_table, pass_table}
use Rattle.mdl_run_trials.proofs.shared.sessions.reopened.Given as goal

abbrev pub invariant-loop : goal.invariant-loop
invariant-loop l = pass_table l.pass ≡ manager_table l.manager

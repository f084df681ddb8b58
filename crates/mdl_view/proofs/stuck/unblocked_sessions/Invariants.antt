-- Those that are blocked at the locks so far were taken out.
use Rattle.std.proofs.Common.{◌≡◌, ℕ, not, take}
use Rattle.mdl_view.specs.Blockings.{waits_blocked}
use Rattle.mdl_view.specs.SessionSets.{has}
use Rattle.mdl_view.proofs.stuck.unblocked_sessions.Given as goal

abbrev pub invariant-loop-lock : goal.invariant-loop-lock
invariant-loop-lock l = (session : ℕ) → has l.found session ≡ not (waits_blocked (take l.lock-index l.locks) session)

-- Each round closes one session.
use Rattle.mdl_run_trials.proofs.shared.crowd.close_all.Given as goal

abbrev pub invariant-loop-session : goal.invariant-loop-session
invariant-loop-session g l = Unit {0}

abbrev pub decreases-loop-session : goal.decreases-loop-session
decreases-loop-session g l = goal.left-loop-session g l

-- All sessions are there after each line.
use Rattle.mdl_script.specs.Plays.{IsManned}
use Rattle.mdl_run_trials.proofs.plays.play_each.Given as goal

abbrev pub invariant-loop-line : goal.invariant-loop-line
invariant-loop-line l = IsManned l.play

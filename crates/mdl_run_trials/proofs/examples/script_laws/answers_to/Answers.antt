-- The law says it of all scripts.
use Rattle.mdl_run_trials.proofs.examples.script_laws.answers_to.Goals as goal

pub returns : goal.returns
returns c = c.no_deadlock_stands.ensures c.args.script.now

pub returns-in_err-replay : goal.returns-in_err-replay
returns-in_err-replay c = c.no_deadlock_stands.ensures c.args.script.now

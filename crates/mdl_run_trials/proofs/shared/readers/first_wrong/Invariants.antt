-- What the cache keeps was met.
use Rattle.mdl_calls.specs.Words.{AreMet}
use Rattle.mdl_shared.specs.SessionData.{HasMet}
use Rattle.mdl_shared.specs.SessionViews.{data_of}
use Rattle.mdl_run_trials.proofs.shared.readers.first_wrong.Given as goal

abbrev pub invariant-loop-at : goal.invariant-loop-at
invariant-loop-at g l = AreMet (HasMet (data_of l.sessions.one) l.sessions.one.me.0.number) l.cache.kept

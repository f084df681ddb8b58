-- Each definition in the cache was met.
use Rattle.mdl_calls.specs.Words.{AreMet}
use Rattle.mdl_calls.specs.SessionData.{HasMet}
use Rattle.mdl_shared.specs.SessionViews.{data_of}
use Rattle.mdl_bench.proofs.reads.keep_all.Given as goal

abbrev pub invariant-loop-id : goal.invariant-loop-id
invariant-loop-id g l = AreMet (HasMet (data_of l.session) l.session.me.0.number) l.cache.kept

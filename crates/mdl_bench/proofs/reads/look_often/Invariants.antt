-- Each definition in the cache was met.
use Rattle.mdl_calls.specs.Words.{AreMet}
use Rattle.mdl_calls.specs.SessionData.{HasMet}
use Rattle.mdl_shared.specs.SessionViews.{data_of}
use Rattle.mdl_bench.proofs.reads.look_often.Given as goal

abbrev pub invariant-loop-turn : goal.invariant-loop-turn
invariant-loop-turn g l = AreMet (HasMet (data_of l.session) l.session.me.0.number) l.cache.kept

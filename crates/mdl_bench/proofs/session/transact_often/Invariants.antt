-- The session knows the places.
use Rattle.std.proofs.Common.{◌≡◌}
use Rattle.mdl_shared.specs.SessionViews.{data_of}
use Rattle.mdl_bench.proofs.session.transact_often.Given as goal

abbrev pub invariant-loop-turn : goal.invariant-loop-turn
invariant-loop-turn g l = (l.places ≡ l.fn.places) × ((data_of l.session).known ≡ (data_of l.fn.session).known)

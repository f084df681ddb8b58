-- The session knows the place.
use Rattle.std.proofs.Common.{◌≡◌, true}
use Rattle.mdl_key.specs.KeyLookups.{is_known}
use Rattle.mdl_shared.specs.SessionViews.{data_of}
use Rattle.mdl_bench.proofs.session.make_pairs.Given as goal

abbrev pub invariant-loop-turn : goal.invariant-loop-turn
invariant-loop-turn g l = is_known l.place (data_of l.session).known ≡ true

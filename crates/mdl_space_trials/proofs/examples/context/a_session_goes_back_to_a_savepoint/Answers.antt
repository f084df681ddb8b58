-- The space attends to the session, which has nothing.
use Rattle.std.proofs.Common.{refl, sym, subst, arith}
use Rattle.mdl_calls.specs.Words.{HasNothing}
use Rattle.mdl_core.specs.Words.{locks_at}
use Rattle.mdl_space_trials.proofs.contexts.HallLemmas.{fresh}
use Rattle.mdl_space_trials.proofs.examples.context.a_session_goes_back_to_a_savepoint.Goals as goal

pub acquire-acquired-requires : goal.acquire-acquired-requires
acquire-acquired-requires g c =
    let made = c.in_ok-space.ensures in
    (fresh c.in_ok-space.space 1 _ c.new-context.ensures (made.speaks 1 (omega arith) (omega arith)) (subst (λ s. HasNothing (locks_at s 1)) (sym made.made) (refl, refl))).1

-- A new space serves both sessions.
use Rattle.std.proofs.Common.{refl, sym, ap, subst, arith}
use Rattle.mdl_calls.specs.Words.{HasNothing}
use Rattle.mdl_core.specs.Words.{locks_at}
use Rattle.mdl_run_trials.proofs.used_up.RoomLemmas.{fresh_both}
use Rattle.mdl_run_trials.proofs.used_up.room.Room.new.Goals as goal

pub invariant_of-result : goal.invariant_of-result
invariant_of-result c =
    let speaks = c.in_ok-space.ensures.speaks in
    fresh_both c.in_ok-space.space _ _ (ap (λ r. r.context) c.in-Ok.ensures.made) (ap (λ r. r.cache.kept) c.in-Ok.ensures.made) (speaks 1 (omega arith) (omega arith)) (speaks 2 (omega arith) (omega arith))
    (subst (λ s. HasNothing (locks_at s 1)) (sym c.in_ok-space.ensures.made) (refl, refl))

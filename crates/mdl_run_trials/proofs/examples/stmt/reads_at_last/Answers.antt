-- The space attends to the session, which has nothing at first.
use Rattle.std.proofs.Common.{refl, sym, ap, subst, arith}
use Rattle.mdl_calls.specs.Words.{HasNothing}
use Rattle.mdl_core.specs.Words.{locks_at}
use Rattle.mdl_space.specs.CoreMembers.{core_space}
use Rattle.mdl_stmt.proofs.AttendanceLemmas.{attends-empty}
use Rattle.mdl_run_trials.proofs.used_up.RoomLemmas.{attends-new}
use Rattle.mdl_run_trials.proofs.examples.stmt.reads_at_last.Goals as goal

pub loop-line-init : goal.loop-line-init
loop-line-init c =
    let made = c.in-Ok.ensures in
    let fresh = c.in-Ok-new.ensures.made in
    attends-empty core_space c.in-Ok.space _ _ (ap (λ runner. runner.cache.kept) fresh)
    (attends-new c.in-Ok.space 1 _ (ap (λ runner. runner.context) fresh) (made.speaks 1 (omega arith) (omega arith)) (subst (λ s. HasNothing (locks_at s 1)) (sym made.made) (refl, refl)))

-- The wait goes on, and then the statement as the wait stands.
use Rattle.std.proofs.Common.{Bool, Some, Ok, Err, ap, refl, ◌∙◌, subst}
use Rattle.mdl_calls.specs.Words.{Runs, ◌>>=◌}
use Rattle.mdl_context.specs.Contexts.{ContextView}
use Rattle.mdl_context.specs.declared.request.Resume.TheVariants as resume
use Rattle.mdl_rows.specs.declared.ending.Ending.{Ending}
use Rattle.mdl_rows.specs.Endings.{Waits_on, closing, ending_of_loss}
use Rattle.mdl_stmt.specs.Attendance.{cached}
use Rattle.mdl_stmt.specs.Gets.{at_rest, ran}
use Rattle.mdl_rows.specs.Keepings.{going_on_kept, keeping}
use Rattle.mdl_stmt.specs.KeptStages.{session_with}
use Rattle.mdl_stmt.specs.Players.{PlayerView, player_of}
use Rattle.mdl_stmt.proofs.KeepLemmas.{ends-kept, goes-on-kept}
use Rattle.mdl_stmt.proofs.player.Player.go_on_kept.Goals as goal

pub returns-in-Ok-Waiting-clause-run : goal.returns-in-Ok-Waiting-clause-run
returns-in-Ok-Waiting-clause-run g c =
    let seat : ContextView → PlayerView = λ context. player_of c.self.inside.cache c.self.inside.explicit context c.self.inside.is_open c.self.inside.has_written c.self.inside.savepoints in
    subst (λ (before : PlayerView). Runs (cached g.S.LockSpace) (c.args.space.now, before.cache) (going_on_kept (session_with before (Some c.args.work))) (Waits_on (session_with (seat c.resume.new.self) (Some c.args.work))) (c.resume.new.space, c.self.inside.cache)) c.self.view_is
    (goes-on-kept g.S.LockSpace (seat c.self.inside.context) c.args.work c.resume.new.self (Ok resume.Waiting) _ _ _ _ (rw (c.in-Ok-Waiting.is, c.in-Ok-Waiting.field-0-is) at c.resume.ensures.run) (refl, refl))

pub returns-in-Ok-Acquired-clause-run : goal.returns-in-Ok-Acquired-clause-run
returns-in-Ok-Acquired-clause-run g c =
    let seat : ContextView → PlayerView = λ context. player_of c.self.inside.cache c.self.inside.explicit context c.self.inside.is_open c.self.inside.has_written c.self.inside.savepoints in
    let turn = c.proceed_kept.result in
    subst (λ (before : PlayerView). Runs (cached g.S.LockSpace) (c.args.space.now, before.cache) (going_on_kept (session_with before (Some c.args.work))) (ran turn.progress (session_with c.proceed_kept.new.self turn.work)) (c.proceed_kept.new.space, c.proceed_kept.new.self.cache)) c.self.view_is
    (goes-on-kept g.S.LockSpace (seat c.self.inside.context) c.args.work c.resume.new.self (Ok (resume.Acquired c.in-Ok-Acquired.ticket)) _ _ _ _ (rw (c.in-Ok-Acquired.is, c.in-Ok-Acquired.field-0-is) at c.resume.ensures.run) c.proceed_kept.ensures.run)

pub returns-in-Ok-Lost-clause-run : goal.returns-in-Ok-Lost-clause-run
returns-in-Ok-Lost-clause-run g c =
    let seat : ContextView → PlayerView = λ context. player_of c.self.inside.cache c.self.inside.explicit context c.self.inside.is_open c.self.inside.has_written c.self.inside.savepoints in
    let turn = c.end_kept.result in
    subst (λ (before : PlayerView). Runs (cached g.S.LockSpace) (c.args.space.now, before.cache) (going_on_kept (session_with before (Some c.args.work))) (ran turn.progress (session_with c.end_kept.new.self turn.work)) (c.end_kept.new.space, c.end_kept.new.self.cache)) c.self.view_is
    (goes-on-kept g.S.LockSpace (seat c.self.inside.context) c.args.work c.resume.new.self (Ok (resume.Lost c.in-Ok-Lost.how)) _ _ _ _ (rw (c.in-Ok-Lost.is, c.in-Ok-Lost.field-0-is) at c.resume.ensures.run)
    (subst (λ (e : Ending). Runs (cached g.S.LockSpace) (c.resume.new.space, c.self.inside.cache) (closing e c.args.work.mark (at_rest (seat c.resume.new.self)) >>= keeping) (ran turn.progress (session_with c.end_kept.new.self turn.work)) (c.end_kept.new.space, c.end_kept.new.self.cache))
    (c.ending_of_loss.ensures ∙ ap (λ (user : Bool). ending_of_loss user c.in-Ok-Lost.how) c.waits_for_user_lock-user.ensures)
    (ends-kept g.S.LockSpace c.ending_of_loss.result c.args.work.mark (seat c.resume.new.self) c.end_kept.new.self turn _ _ c.end_kept.ensures.run)))

pub returns-in-Err-clause-run : goal.returns-in-Err-clause-run
returns-in-Err-clause-run g c =
    let seat : ContextView → PlayerView = λ context. player_of c.self.inside.cache c.self.inside.explicit context c.self.inside.is_open c.self.inside.has_written c.self.inside.savepoints in
    let turn = c.end_kept-in-Err.result in
    subst (λ (before : PlayerView). Runs (cached g.S.LockSpace) (c.args.space.now, before.cache) (going_on_kept (session_with before (Some c.args.work))) (ran turn.progress (session_with c.end_kept-in-Err.new.self turn.work)) (c.end_kept-in-Err.new.space, c.end_kept-in-Err.new.self.cache)) c.self.view_is
    (goes-on-kept g.S.LockSpace (seat c.self.inside.context) c.args.work c.resume.new.self (Err c.in-Err.error) _ _ _ _ (rw c.in-Err.is at c.resume.ensures.run)
    (subst (λ (e : Ending). Runs (cached g.S.LockSpace) (c.resume.new.space, c.self.inside.cache) (closing e c.args.work.mark (at_rest (seat c.resume.new.self)) >>= keeping) (ran turn.progress (session_with c.end_kept-in-Err.new.self turn.work)) (c.end_kept-in-Err.new.space, c.end_kept-in-Err.new.self.cache)) c.ending_of_error.ensures
    (ends-kept g.S.LockSpace c.ending_of_error.result c.args.work.mark (seat c.resume.new.self) c.end_kept-in-Err.new.self turn _ _ c.end_kept-in-Err.ensures.run)))

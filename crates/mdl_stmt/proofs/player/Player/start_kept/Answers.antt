-- The statement is played, and then it is ended, or what is left of it is copied.
use Rattle.std.proofs.Common.{ap, ◌∙◌, subst}
use Rattle.mdl_calls.specs.Words.{Runs}
use Rattle.mdl_context.specs.declared.request.Mark.{Mark}
use Rattle.mdl_context.specs.Contexts.{current_mark}
use Rattle.mdl_stmt.specs.Attendance.{cached}
use Rattle.mdl_stmt.specs.Gets.{at_rest, ran}
use Rattle.mdl_rows.specs.Keepings.{play_kept}
use Rattle.mdl_stmt.specs.KeptStages.{session_with}
use Rattle.mdl_stmt.specs.Players.{PlayerView}
use Rattle.mdl_rows.specs.Statements.{row_of}
use Rattle.mdl_stmt.proofs.KeepLemmas.{settled-so}
use Rattle.mdl_stmt.proofs.player.Player.start_kept.Goals as goal

pub returns-clause-run : goal.returns-clause-run
returns-clause-run g c =
    let turn = c.settle.result in
    subst (λ (mark : Mark). Runs (cached g.S.LockSpace) (c.args.space.now, c.args.self.now.cache) (play_kept (row_of c.args.statement.now) mark (at_rest c.args.self.now)) (ran turn.progress (session_with c.settle.new.self turn.work)) (c.settle.new.space, c.settle.new.self.cache))
    (c.savepoint-mark.ensures ∙ ap (λ (p : PlayerView). current_mark p.context.kept) c.self.view_is)
    (settled-so g.S.LockSpace (row_of c.args.statement.now) c.savepoint-mark.result c.args.self.now c.perform-played.new.self c.settle.new.self c.perform-played.result turn _ _ _
    c.perform-played.ensures.run c.settle.ensures.run)

-- What is lent of a stage leads to the same.
use Rattle.std.proofs.Common.{ℕ, ap, sym, ◌∙◌, subst}
use Rattle.mdl_calls.specs.Words.{Runs}
use Rattle.mdl_rows.specs.declared.reply.Reply.{Reply}
use Rattle.mdl_stmt.specs.Attendance.{cached}
use Rattle.mdl_stmt.specs.Gets.{at_rest, ran}
use Rattle.mdl_rows.specs.Keepings.{play_kept}
use Rattle.mdl_stmt.specs.KeptStages.{rest_of_kept, session_with}
use Rattle.mdl_rows.specs.Rows.{Row}
use Rattle.mdl_stmt.proofs.player.Player.proceed_kept.Goals as goal

pub returns-in-Write-clause-run : goal.returns-in-Write-clause-run
returns-in-Write-clause-run g c =
    let turn = c.proceed_at-in-Write.result in
    subst (λ (rest : ℕ → Row Reply). Runs (cached g.S.LockSpace) (c.args.space.now, c.args.self.now.cache) (play_kept (rest c.args.ticket) c.args.work.mark (at_rest c.args.self.now)) (ran turn.progress (session_with c.proceed_at-in-Write.new.self turn.work)) (c.proceed_at-in-Write.new.space, c.proceed_at-in-Write.new.self.cache))
    (c.lend.ensures ∙ ap rest_of_kept (sym c.in-Write.is)) c.proceed_at-in-Write.ensures.run

pub returns-in-Create-clause-run : goal.returns-in-Create-clause-run
returns-in-Create-clause-run g c =
    let turn = c.proceed_at-turn-in-Create.result in
    subst (λ (rest : ℕ → Row Reply). Runs (cached g.S.LockSpace) (c.args.space.now, c.args.self.now.cache) (play_kept (rest c.args.ticket) c.args.work.mark (at_rest c.args.self.now)) (ran turn.progress (session_with c.proceed_at-turn-in-Create.new.self turn.work)) (c.proceed_at-turn-in-Create.new.space, c.proceed_at-turn-in-Create.new.self.cache))
    (c.lend-in-Create.ensures ∙ ap rest_of_kept (sym c.in-Create.is)) c.proceed_at-turn-in-Create.ensures.run

pub returns-in-CreateSchema-clause-run : goal.returns-in-CreateSchema-clause-run
returns-in-CreateSchema-clause-run g c =
    let turn = c.proceed_at-in-CreateSchema.result in
    subst (λ (rest : ℕ → Row Reply). Runs (cached g.S.LockSpace) (c.args.space.now, c.args.self.now.cache) (play_kept (rest c.args.ticket) c.args.work.mark (at_rest c.args.self.now)) (ran turn.progress (session_with c.proceed_at-in-CreateSchema.new.self turn.work)) (c.proceed_at-in-CreateSchema.new.space, c.proceed_at-in-CreateSchema.new.self.cache))
    (c.lend-in-CreateSchema.ensures ∙ ap rest_of_kept (sym c.in-CreateSchema.is)) c.proceed_at-in-CreateSchema.ensures.run

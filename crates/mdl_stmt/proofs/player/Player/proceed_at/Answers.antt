-- The stage is played, and then the statement is ended, or what is left of it is copied.
use Rattle.mdl_stmt.specs.Stages.{rest_of}
use Rattle.mdl_stmt.proofs.KeepLemmas.{settled-so}
use Rattle.mdl_stmt.proofs.player.Player.proceed_at.Goals as goal

pub returns-clause-run : goal.returns-clause-run
returns-clause-run g c =
    settled-so g.S.LockSpace (rest_of c.args.stage c.args.ticket) c.args.mark c.args.self.now c.proceed-played.new.self c.settle.new.self c.proceed-played.result c.settle.result _ _ _
    c.proceed-played.ensures.run c.settle.ensures.run

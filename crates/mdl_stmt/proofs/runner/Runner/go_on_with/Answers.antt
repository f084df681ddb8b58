-- What is left of the statement is played, and then the statement is ended.
use Rattle.std.proofs.Common.{◌∙◌, sym}
use Rattle.mdl_stmt.proofs.RunnerLemmas.{goes-on-ended}
use Rattle.mdl_stmt.proofs.runner.Runner.go_on_with.Goals as goal

pub returns-in-Ends-clause-run : goal.returns-in-Ends-clause-run
returns-in-Ends-clause-run g c =
    goes-on-ended g.S.LockSpace c.args.ticket c.args.self.now c.self.inside.player c.proceed.new.self c.close.new.self c.self.inside.work c.take.new.self c.unwrap-stage.result c.in-Ends.ending
    c.close.result _ _ _ c.self.view_is (sym c.take.ensures.value ∙ c.unwrap-stage.ensures) c.take.ensures.after (rw c.in-Ends.is at c.proceed.ensures.run) c.close.ensures.run

-- What was left at a stage is what its method does.
use Rattle.std.proofs.Common.{sym, subst}
use Rattle.mdl_stmt.specs.declared.stage.Creating.{Creating}
use Rattle.mdl_stmt.specs.Gets.{IsPlayed}
use Rattle.mdl_stmt.specs.Stages.{rest_of_creating}
use Rattle.mdl_stmt.proofs.player.Player.go_on_creating.Goals as goal

pub returns-in-Global-clause-run : goal.returns-in-Global-clause-run
returns-in-Global-clause-run g c =
    subst (λ (at : Creating). IsPlayed g.S.LockSpace (rest_of_creating at c.args.ticket) c.args.space.now c.args.self.now c.lock_schema_and_create.result c.lock_schema_and_create.new.space c.lock_schema_and_create.new.self) (sym c.in-Global.is)
    c.lock_schema_and_create.ensures.run

pub returns-in-Schema-clause-run : goal.returns-in-Schema-clause-run
returns-in-Schema-clause-run g c =
    subst (λ (at : Creating). IsPlayed g.S.LockSpace (rest_of_creating at c.args.ticket) c.args.space.now c.args.self.now c.lock_and_create.result c.lock_and_create.new.space c.lock_and_create.new.self) (sym c.in-Schema.is)
    c.lock_and_create.ensures.run

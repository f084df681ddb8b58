-- The lock of all writes is had, waited for, or missed.
use Rattle.std.proofs.Common.{subst}
use Rattle.mdl_key.specs.Keys.{KeyName, global_key}
use Rattle.mdl_key.specs.declared.mode.Mode.TheVariants.{IX}
use Rattle.mdl_key.specs.declared.mode.Duration.TheVariants.{Statement}
use Rattle.mdl_stmt.specs.Gets.{IsGot}
use Rattle.mdl_rows.specs.Statements.{create_schema_after_commit, lock_and_create_schema}
use Rattle.mdl_stmt.proofs.RunLemmas.{comes-played}
use Rattle.mdl_stmt.proofs.player.Player.create_schema.Goals as goal

pub returns-in-Had-clause-run : goal.returns-in-Had-clause-run
returns-in-Had-clause-run g c =
    let got : IsGot g.S.LockSpace (record { key = global_key; mode = IX; duration = Statement }) c.args.space.now c.args.self.now c.get.result c.get.new.space c.get.new.self =
    subst (λ (k : KeyName). IsGot g.S.LockSpace (record { key = k; mode = IX; duration = Statement }) c.args.space.now c.args.self.now c.get.result c.get.new.space c.get.new.self) c.global-writes.ensures c.get.ensures.run in
    let rest = lock_and_create_schema c.args.name.now in
    comes-played c.lock_and_create_schema.new.space c.lock_and_create_schema.new.self (create_schema_after_commit c.args.name.now) rest c.lock_and_create_schema.result
    ((rw c.in-Had.is at got) (λ _. rest)) c.lock_and_create_schema.ensures.run

pub returns-in-Waits-clause-run : goal.returns-in-Waits-clause-run
returns-in-Waits-clause-run g c =
    let got : IsGot g.S.LockSpace (record { key = global_key; mode = IX; duration = Statement }) c.args.space.now c.args.self.now c.get.result c.get.new.space c.get.new.self =
    subst (λ (k : KeyName). IsGot g.S.LockSpace (record { key = k; mode = IX; duration = Statement }) c.args.space.now c.args.self.now c.get.result c.get.new.space c.get.new.self) c.global-writes.ensures c.get.ensures.run in
    (rw c.in-Waits.is at got) (λ _. lock_and_create_schema c.args.name.now)

-- The schema's lock is had, waited for, or missed.
use Rattle.std.proofs.Common.{subst}
use Rattle.mdl_key.specs.Keys.{KeyName}
use Rattle.mdl_key.specs.declared.mode.Mode.TheVariants.{IX}
use Rattle.mdl_key.specs.declared.mode.Duration.TheVariants.{Transaction}
use Rattle.mdl_context.specs.Wishes.{Wish}
use Rattle.mdl_stmt.specs.Gets.{IsGot}
use Rattle.mdl_rows.specs.Rows.{Acquire}
use Rattle.mdl_rows.specs.Statements.{alter_in_schema, lock_schema_and_alter, schema_of}
use Rattle.mdl_stmt.proofs.CallLemmas.{room-found, room-waits}
use Rattle.mdl_stmt.proofs.RunLemmas.{comes-then, comes-played}
use Rattle.mdl_stmt.proofs.player.Player.lock_schema_and_alter.Goals as goal

pub returns-in-Had-clause-run : goal.returns-in-Had-clause-run
returns-in-Had-clause-run g c =
    let wish : KeyName → Wish = λ k. record { key = k; mode = IX; duration = Transaction } in
    let table = c.args.alteration.now.table in
    let got : IsGot g.S.LockSpace (wish (schema_of table)) c.args.space.now c.args.self.now c.get.result c.get.new.space c.get.new.self =
    subst (λ (k : KeyName). IsGot g.S.LockSpace (wish k) c.args.space.now c.args.self.now c.get.result c.get.new.space c.get.new.self) c.in-Ok.ensures.made c.get.ensures.run in
    let rest = alter_in_schema c.args.alteration.now in
    comes-played c.alter_in_schema.new.space c.alter_in_schema.new.self (lock_schema_and_alter c.args.alteration.now) rest c.alter_in_schema.result
    (comes-then (room-found (Acquire (wish (schema_of table)) (λ _. rest))) ((rw c.in-Had.is at got) (λ _. rest))) c.alter_in_schema.ensures.run

pub returns-in-Waits-clause-run : goal.returns-in-Waits-clause-run
returns-in-Waits-clause-run g c =
    let wish : KeyName → Wish = λ k. record { key = k; mode = IX; duration = Transaction } in
    let table = c.args.alteration.now.table in
    let got : IsGot g.S.LockSpace (wish (schema_of table)) c.args.space.now c.args.self.now c.get.result c.get.new.space c.get.new.self =
    subst (λ (k : KeyName). IsGot g.S.LockSpace (wish k) c.args.space.now c.args.self.now c.get.result c.get.new.space c.get.new.self) c.in-Ok.ensures.made c.get.ensures.run in
    let rest = alter_in_schema c.args.alteration.now in
    room-waits (Acquire (wish (schema_of table)) (λ _. rest)) ((rw c.in-Waits.is at got) (λ _. rest))

pub returns-clause-run : goal.returns-clause-run
returns-clause-run g c =
    let wish : KeyName → Wish = λ k. record { key = k; mode = IX; duration = Transaction } in
    let table = c.args.alteration.now.table in
    let got : IsGot g.S.LockSpace (wish (schema_of table)) c.args.space.now c.args.self.now c.get.result c.get.new.space c.get.new.self =
    subst (λ (k : KeyName). IsGot g.S.LockSpace (wish k) c.args.space.now c.args.self.now c.get.result c.get.new.space c.get.new.self) c.in-Ok.ensures.made c.get.ensures.run in
    let rest = alter_in_schema c.args.alteration.now in
    comes-then (room-found (Acquire (wish (schema_of table)) (λ _. rest))) ((rw c.in-Ends.is at got) (λ _. rest))

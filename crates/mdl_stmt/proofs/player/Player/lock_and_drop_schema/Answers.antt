-- The schema's lock is had, waited for, or missed.
use Rattle.std.proofs.Common.{◌∙◌, ap, subst}
use Rattle.mdl_key.specs.Keys.{KeyName, schema_key}
use Rattle.mdl_key.specs.declared.mode.Mode.TheVariants.{X}
use Rattle.mdl_key.specs.declared.mode.Duration.TheVariants.{Transaction}
use Rattle.mdl_context.specs.Wishes.{Wish}
use Rattle.mdl_stmt.specs.Gets.{IsGot}
use Rattle.mdl_rows.specs.Rows.{Acquire}
use Rattle.mdl_rows.specs.Statements.{lock_and_drop_schema, drop_schema_under}
use Rattle.mdl_stmt.proofs.CallLemmas.{room-found, room-waits}
use Rattle.mdl_stmt.proofs.RunLemmas.{comes-then, comes-played}
use Rattle.mdl_stmt.proofs.player.Player.lock_and_drop_schema.Goals as goal

pub returns-in-Had-clause-run : goal.returns-in-Had-clause-run
returns-in-Had-clause-run g c =
    let wish : KeyName → Wish = λ k. record { key = k; mode = X; duration = Transaction } in
    let got : IsGot g.S.LockSpace (wish (schema_key c.args.name.now)) c.args.space.now c.args.self.now c.get.result c.get.new.space c.get.new.self =
    subst (λ (k : KeyName). IsGot g.S.LockSpace (wish k) c.args.space.now c.args.self.now c.get.result c.get.new.space c.get.new.self) (c.in-Ok.ensures.made ∙ ap schema_key c.as_str.ensures) c.get.ensures.run in
    comes-played c.drop_schema_under.new.space c.drop_schema_under.new.self (lock_and_drop_schema c.args.name.now) (drop_schema_under c.args.name.now c.in-Had.ticket) c.drop_schema_under.result
    (comes-then (room-found (Acquire (wish (schema_key c.args.name.now)) (drop_schema_under c.args.name.now))) ((rw c.in-Had.is at got) (drop_schema_under c.args.name.now))) c.drop_schema_under.ensures.run

pub returns-in-Waits-clause-run : goal.returns-in-Waits-clause-run
returns-in-Waits-clause-run g c =
    let wish : KeyName → Wish = λ k. record { key = k; mode = X; duration = Transaction } in
    let got : IsGot g.S.LockSpace (wish (schema_key c.args.name.now)) c.args.space.now c.args.self.now c.get.result c.get.new.space c.get.new.self =
    subst (λ (k : KeyName). IsGot g.S.LockSpace (wish k) c.args.space.now c.args.self.now c.get.result c.get.new.space c.get.new.self) (c.in-Ok.ensures.made ∙ ap schema_key c.as_str.ensures) c.get.ensures.run in
    room-waits (Acquire (wish (schema_key c.args.name.now)) (drop_schema_under c.args.name.now)) ((rw c.in-Waits.is at got) (drop_schema_under c.args.name.now))

pub returns-clause-run : goal.returns-clause-run
returns-clause-run g c =
    let wish : KeyName → Wish = λ k. record { key = k; mode = X; duration = Transaction } in
    let got : IsGot g.S.LockSpace (wish (schema_key c.args.name.now)) c.args.space.now c.args.self.now c.get.result c.get.new.space c.get.new.self =
    subst (λ (k : KeyName). IsGot g.S.LockSpace (wish k) c.args.space.now c.args.self.now c.get.result c.get.new.space c.get.new.self) (c.in-Ok.ensures.made ∙ ap schema_key c.as_str.ensures) c.get.ensures.run in
    comes-then (room-found (Acquire (wish (schema_key c.args.name.now)) (drop_schema_under c.args.name.now))) ((rw c.in-Ends.is at got) (drop_schema_under c.args.name.now))

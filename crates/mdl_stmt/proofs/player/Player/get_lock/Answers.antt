-- The lock is had, waited for, or missed.
use Rattle.std.proofs.Common.{ℕ, true, ◌∙◌, ap, subst}
use Rattle.mdl_key.specs.Keys.{KeyName, user_lock_key}
use Rattle.mdl_key.specs.declared.mode.Mode.TheVariants.{X}
use Rattle.mdl_key.specs.declared.mode.Duration.TheVariants.{Explicit}
use Rattle.mdl_context.specs.Wishes.{Wish}
use Rattle.mdl_rows.specs.declared.reply.Reply.{Reply}
use Rattle.mdl_rows.specs.declared.reply.Reply.TheVariants as reply
use Rattle.mdl_rows.specs.Rows.{Row, Acquire, Give}
use Rattle.mdl_stmt.specs.Gets.{IsGot}
use Rattle.mdl_stmt.proofs.CallLemmas.{room-found, room-waits}
use Rattle.mdl_stmt.proofs.RunLemmas.{comes-then}
use Rattle.mdl_stmt.proofs.player.Player.get_lock.Goals as goal

pub returns-in-Had-clause-run : goal.returns-in-Had-clause-run
returns-in-Had-clause-run g c =
    let wish : KeyName → Wish = λ k. record { key = k; mode = X; duration = Explicit } in
    let got : IsGot g.S.LockSpace (wish (user_lock_key c.args.name.now)) c.args.space.now c.args.self.now c.get.result c.get.new.space c.get.new.self =
    subst (λ (k : KeyName). IsGot g.S.LockSpace (wish k) c.args.space.now c.args.self.now c.get.result c.get.new.space c.get.new.self) (c.in-Ok.ensures.made ∙ ap user_lock_key c.as_str.ensures) c.get.ensures.run in
    let rest : ℕ → Row Reply = λ _. Give (reply.Number true) in
    comes-then (room-found (Acquire (wish (user_lock_key c.args.name.now)) rest)) ((rw c.in-Had.is at got) rest)

pub returns-in-Waits-clause-run : goal.returns-in-Waits-clause-run
returns-in-Waits-clause-run g c =
    let wish : KeyName → Wish = λ k. record { key = k; mode = X; duration = Explicit } in
    let got : IsGot g.S.LockSpace (wish (user_lock_key c.args.name.now)) c.args.space.now c.args.self.now c.get.result c.get.new.space c.get.new.self =
    subst (λ (k : KeyName). IsGot g.S.LockSpace (wish k) c.args.space.now c.args.self.now c.get.result c.get.new.space c.get.new.self) (c.in-Ok.ensures.made ∙ ap user_lock_key c.as_str.ensures) c.get.ensures.run in
    let rest : ℕ → Row Reply = λ _. Give (reply.Number true) in
    room-waits (Acquire (wish (user_lock_key c.args.name.now)) rest) ((rw c.in-Waits.is at got) rest)

pub returns-clause-run : goal.returns-clause-run
returns-clause-run g c =
    let wish : KeyName → Wish = λ k. record { key = k; mode = X; duration = Explicit } in
    let got : IsGot g.S.LockSpace (wish (user_lock_key c.args.name.now)) c.args.space.now c.args.self.now c.get.result c.get.new.space c.get.new.self =
    subst (λ (k : KeyName). IsGot g.S.LockSpace (wish k) c.args.space.now c.args.self.now c.get.result c.get.new.space c.get.new.self) (c.in-Ok.ensures.made ∙ ap user_lock_key c.as_str.ensures) c.get.ensures.run in
    let rest : ℕ → Row Reply = λ _. Give (reply.Number true) in
    comes-then (room-found (Acquire (wish (user_lock_key c.args.name.now)) rest)) ((rw c.in-Ends.is at got) rest)

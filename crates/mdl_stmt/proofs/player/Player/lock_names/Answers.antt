-- All locks are had, or one is waited for.
use Rattle.std.proofs.Common.{◌≡◌, ℕ, List, ◌∙◌, ap, sym, subst}
use Rattle.mdl_key.specs.Keys.{KeyName}
use Rattle.mdl_rows.specs.declared.reply.Reply.{Reply}
use Rattle.mdl_stmt.specs.Gets.{IsPlayed, Waits}
use Rattle.mdl_rows.specs.KeyOrder.{locked_ticket}
use Rattle.mdl_stmt.specs.LockLists.{with_next_ticket}
use Rattle.mdl_rows.specs.Playing.{play}
use Rattle.mdl_rows.specs.Rows.{Row}
use Rattle.mdl_stmt.specs.Stages.{rename_names}
use Rattle.mdl_rows.specs.Statements.{rename_under}
use Rattle.mdl_stmt.proofs.RunLemmas.{comes-played}
use Rattle.mdl_stmt.proofs.player.Player.lock_names.Goals as goal

pub returns-in-Had-clause-run : goal.returns-in-Had-clause-run
returns-in-Had-clause-run g c =
    let rest : List ℕ → Row Reply = λ tickets. rename_under c.args.schema (locked_ticket c.args.from.now c.args.locks.keys tickets) (locked_ticket c.args.to.now c.args.locks.keys tickets) in
    let tickets : List ℕ = c.in-Had.names.tickets in
    let same : c.in-Had.names.keys ≡ c.args.locks.keys = rw c.in-Had.is at c.lock_all.ensures.keys in
    let from : c.ticket_of.result ≡ locked_ticket c.args.from.now c.args.locks.keys tickets = c.ticket_of.ensures ∙ ap (λ (keys : List KeyName). locked_ticket c.args.from.now keys tickets) same in
    let to : c.ticket_of-in-Had.result ≡ locked_ticket c.args.to.now c.args.locks.keys tickets = c.ticket_of-in-Had.ensures ∙ ap (λ (keys : List KeyName). locked_ticket c.args.to.now keys tickets) same in
    comes-played c.rename_under.new.space c.rename_under.new.self (rename_names c.args.from.now c.args.to.now c.args.schema c.args.locks c.args.locks.keys) (rest tickets) c.rename_under.result
    ((rw c.in-Had.is at c.lock_all.ensures.run) rest)
    (subst (λ (row : Row Reply). IsPlayed g.S.LockSpace row c.lock_all.new.space c.lock_all.new.self c.rename_under.result c.rename_under.new.space c.rename_under.new.self)
    (ap (λ (n : ℕ). rename_under c.args.schema n c.ticket_of-in-Had.result) from ∙ ap (rename_under c.args.schema (locked_ticket c.args.from.now c.args.locks.keys tickets)) to) c.rename_under.ensures.run)

pub returns-in-Waits-clause-run : goal.returns-in-Waits-clause-run
returns-in-Waits-clause-run g c =
    let rest : List KeyName → List ℕ → Row Reply = λ keys tickets. rename_under c.args.schema (locked_ticket c.args.from.now keys tickets) (locked_ticket c.args.to.now keys tickets) in
    subst (λ (keys : List KeyName). Waits g.S.LockSpace c.args.space.now c.args.self.now (play (rename_names c.args.from.now c.args.to.now c.args.schema c.args.locks c.args.locks.keys)) c.in-Waits.key c.in-Waits.mode
    (λ ticket. rename_names c.args.from.now c.args.to.now c.args.schema (with_next_ticket ticket c.in-Waits.locks) keys) c.lock_all.new.space c.lock_all.new.self)
    (sym (rw c.in-Waits.is at c.lock_all.ensures.keys)) ((rw c.in-Waits.is at c.lock_all.ensures.run) (rest c.args.locks.keys))

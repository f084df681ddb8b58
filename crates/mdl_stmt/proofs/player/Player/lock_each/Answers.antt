-- The next lock is had, waited for, or missed.
use Rattle.std.proofs.Common.{◌∙◌, ap, sym}
use Rattle.mdl_stmt.specs.LockLists.{LockList}
use Rattle.mdl_stmt.specs.Stages.{wish_by}
use Rattle.mdl_stmt.proofs.AttendanceLemmas.{goes_on-then}
use Rattle.mdl_stmt.proofs.LockListLemmas.{keys-stay, wish-so, list-had, list-waits, list-ends, list-over}
use Rattle.mdl_stmt.proofs.player.Player.lock_each.Goals as goal

pub loop-key-preserved : goal.loop-key-preserved
loop-key-preserved g c = record {
  idle = rw c.in-Had.is at c.get.ensures.idle;
  goes_on = goes_on-then c.loop-key.invariant.goes_on c.get.ensures.goes_on;
  keys = ap (λ (l : LockList). l.keys) c.with-locks.ensures ∙ keys-stay c.in-Had.ticket c.loop-key.locks ∙ c.loop-key.invariant.keys;
  run = list-had g.S.LockSpace (wish_by c.args.locking) c.args.locks c.args.space.now c.args.self.now c.loop-key.locks c.with-locks.result c.in-Some.key.now _ c.in-Had.ticket c.loop-key.space c.get.new.space c.loop-key.self c.get.new.self
      (sym (rw c.in-Some.is at c.next.ensures)) (wish-so c.args.locking c.in-Some.key.now c.mode_of-mode.result c.duration_of.result c.mode_of-mode.ensures c.duration_of.ensures)
      c.with-locks.ensures c.loop-key.invariant.run (rw c.in-Had.is at c.get.ensures.run);
}

pub returns-in-Waits-clause-run : goal.returns-in-Waits-clause-run
returns-in-Waits-clause-run g c =
    list-waits g.S.LockSpace (wish_by c.args.locking) c.args.locks c.args.space.now c.args.self.now c.loop-key.locks c.in-Some.key.now c.in-Waits.key
    (record { key = c.in-Some.key.now; mode = c.mode_of-mode.result; duration = c.duration_of.result }) c.loop-key.space c.get.new.space c.loop-key.self c.get.new.self
    (sym (rw c.in-Some.is at c.next.ensures)) (wish-so c.args.locking c.in-Some.key.now c.mode_of-mode.result c.duration_of.result c.mode_of-mode.ensures c.duration_of.ensures)
    c.loop-key.invariant.run (rw c.in-Waits.is at c.get.ensures.run)

pub returns-in-Ends-clause-run : goal.returns-in-Ends-clause-run
returns-in-Ends-clause-run g c =
    list-ends g.S.LockSpace (wish_by c.args.locking) c.args.locks c.args.space.now c.args.self.now c.loop-key.locks c.in-Some.key.now
    (record { key = c.in-Some.key.now; mode = c.mode_of-mode.result; duration = c.duration_of.result }) c.in-Ends.ending c.loop-key.space c.get.new.space c.loop-key.self c.get.new.self
    (sym (rw c.in-Some.is at c.next.ensures)) (wish-so c.args.locking c.in-Some.key.now c.mode_of-mode.result c.duration_of.result c.mode_of-mode.ensures c.duration_of.ensures)
    c.loop-key.invariant.run (rw c.in-Ends.is at c.get.ensures.run)

pub returns-clause-run : goal.returns-clause-run
returns-clause-run g c =
    list-over g.S.LockSpace (wish_by c.args.locking) c.args.locks c.args.space.now c.args.self.now c.loop-key.locks c.loop-key.space c.loop-key.self (sym (rw c.in_default.is at c.next.ensures)) c.loop-key.invariant.run

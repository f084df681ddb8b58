-- One table after the other is dropped.
use Rattle.std.proofs.Math.ListN.{drop_of_length-le}
use Rattle.std.proofs.Math.Seq.{drop-cons}
use Rattle.mdl_defs.specs.declared.change.Change.TheVariants as change
use Rattle.mdl_rows.specs.Rows.{redefine}
use Rattle.mdl_stmt.proofs.AttendanceLemmas.{goes_on-then}
use Rattle.mdl_stmt.proofs.DropLemmas.{each-done, each-ends, each-over}
use Rattle.mdl_stmt.proofs.player.Player.drop_all.Goals as goal

pub returns-in-Err-clause-run : goal.returns-in-Err-clause-run
returns-in-Err-clause-run g c =
    each-ends g.S.LockSpace (λ ticket. redefine ticket change.Drop) c.args.tickets.now c.args.space.now c.args.self.now c.loop-ticket.ticket-index _ c.loop-ticket.space _ c.loop-ticket.self _ c.in-Err.ending
    (drop-cons c.args.tickets.now c.loop-ticket.ticket-index 0 c.loop-ticket-test.true) c.loop-ticket.invariant.run (rw c.in-Err.is at c.redefine.ensures.run)

pub loop-ticket-preserved : goal.loop-ticket-preserved
loop-ticket-preserved g c = record {
  idle = c.redefine.ensures.idle;
  goes_on = goes_on-then c.loop-ticket.invariant.goes_on c.redefine.ensures.goes_on;
  run = each-done g.S.LockSpace (λ ticket. redefine ticket change.Drop) c.args.tickets.now c.args.space.now c.args.self.now c.loop-ticket.ticket-index _ c.loop-ticket.space c.redefine.new.space c.loop-ticket.self c.redefine.new.self
      (drop-cons c.args.tickets.now c.loop-ticket.ticket-index 0 c.loop-ticket-test.true) c.loop-ticket.invariant.run (rw c.in_default.is at c.redefine.ensures.run);
}

pub returns-clause-run : goal.returns-clause-run
returns-clause-run g c =
    each-over g.S.LockSpace (λ ticket. redefine ticket change.Drop) c.args.tickets.now c.args.space.now c.args.self.now c.loop-ticket.ticket-index c.loop-ticket.space c.loop-ticket.self
    (drop_of_length-le c.args.tickets.now c.loop-ticket-test.false) c.loop-ticket.invariant.run

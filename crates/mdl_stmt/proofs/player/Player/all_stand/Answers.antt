-- One table after the other is looked at.
use Rattle.std.proofs.Math.ListN.{drop_of_length-le}
use Rattle.std.proofs.Math.Seq.{drop-cons}
use Rattle.mdl_rows.specs.Statements.{stands}
use Rattle.mdl_stmt.proofs.AttendanceLemmas.{goes_on-then}
use Rattle.mdl_stmt.proofs.DropLemmas.{each-done, each-ends, each-over}
use Rattle.mdl_stmt.proofs.player.Player.all_stand.Goals as goal

pub returns-in-Err-clause-run : goal.returns-in-Err-clause-run
returns-in-Err-clause-run g c =
    each-ends g.S.LockSpace stands c.args.tickets.now c.args.space.now c.args.self.now c.loop-ticket.ticket-index _ c.loop-ticket.space _ c.loop-ticket.self _ c.in-Err.ending
    (drop-cons c.args.tickets.now c.loop-ticket.ticket-index 0 c.loop-ticket-test.true) c.loop-ticket.invariant.run (rw c.in-Err.is at c.stands.ensures.run)

pub loop-ticket-preserved : goal.loop-ticket-preserved
loop-ticket-preserved g c = record {
  idle = c.stands.ensures.idle;
  goes_on = goes_on-then c.loop-ticket.invariant.goes_on c.stands.ensures.goes_on;
  run = each-done g.S.LockSpace stands c.args.tickets.now c.args.space.now c.args.self.now c.loop-ticket.ticket-index _ c.loop-ticket.space c.stands.new.space c.loop-ticket.self c.stands.new.self
      (drop-cons c.args.tickets.now c.loop-ticket.ticket-index 0 c.loop-ticket-test.true) c.loop-ticket.invariant.run (rw c.in_default.is at c.stands.ensures.run);
}

pub returns-clause-run : goal.returns-clause-run
returns-clause-run g c =
    each-over g.S.LockSpace stands c.args.tickets.now c.args.space.now c.args.self.now c.loop-ticket.ticket-index c.loop-ticket.space c.loop-ticket.self
    (drop_of_length-le c.args.tickets.now c.loop-ticket-test.false) c.loop-ticket.invariant.run

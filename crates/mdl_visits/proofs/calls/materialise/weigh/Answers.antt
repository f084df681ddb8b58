-- What one more adds fits, since they are few.
use Rattle.mdl_visits.proofs.Lemmas.{arith, no_own, weight-more, weight-small}
use Rattle.mdl_visits.proofs.calls.materialise.weigh.Goals as goal

pub overflow_add-weight : goal.overflow_add-weight
overflow_add-weight c =
    let inside = c.loop-ticket-test.true in
    let few = c.requires.few in
    let was = c.loop-ticket.invariant 0 in
    let one = c.increment-weight.ensures in
    let small = weight-small c.args.kind 0 c.args.tickets.now c.loop-ticket.ticket-index no_own inside few in
    omega arith

pub loop-ticket-preserved : goal.loop-ticket-preserved
loop-ticket-preserved c = λ session.
    let inside = c.loop-ticket-test.true in
    let was = c.loop-ticket.invariant session in
    let one = c.increment-weight.ensures in
    let more = weight-more c.args.kind session c.args.tickets.now c.loop-ticket.ticket-index no_own inside in
    omega arith

use Rattle.std.proofs.Common.{arith, get_or}
use Rattle.std.proofs.lemmas.List.Edits.{map_over_more}
use Rattle.mdl_context.specs.Holdings.{lasting}
use Rattle.mdl_context.proofs.ReleaseLemmas.{no_item, own_item}
use Rattle.mdl_context.proofs.holdings.keep_one_for.Goals as goal

pub loop-ticket-preserved : goal.loop-ticket-preserved
loop-ticket-preserved c =
    let i = c.loop-ticket.ticket-index in
    let change = lasting c.args.id c.args.duration in
    rw c.keep_if_numbered.ensures (map_over_more change c.args.tickets.now c.loop-ticket.tickets i (get_or c.loop-ticket.tickets i no_item)
    (omega arith) c.loop-ticket.invariant (own_item c.loop-ticket.tickets i no_item (omega arith)))

use Rattle.std.proofs.Common.{arith, get_or}
use Rattle.std.proofs.lemmas.List.Edits.{map_over_more}
use Rattle.mdl_key.specs.declared.mode.Duration.TheVariants.{Explicit}
use Rattle.mdl_context.specs.Holdings.{kept_for}
use Rattle.mdl_context.proofs.ReleaseLemmas.{no_item, own_item}
use Rattle.mdl_context.proofs.holdings.make_all_explicit.Goals as goal

pub loop-ticket-preserved : goal.loop-ticket-preserved
loop-ticket-preserved c =
    let i = c.loop-ticket.ticket-index in
    map_over_more (kept_for Explicit) c.args.tickets.now c.loop-ticket.tickets i (get_or c.loop-ticket.tickets i no_item)
    (omega arith) c.loop-ticket.invariant (own_item c.loop-ticket.tickets i no_item (omega arith))

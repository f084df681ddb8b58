-- The ticket stands behind those that are gone.
use Rattle.std.proofs.Common.{◌+◌, slice_set}
use Rattle.std.proofs.lemmas.List.{drop-set-add, length-set}
use Rattle.mdl_book.proofs.ListLemmas.{refill-same}
use Rattle.mdl_book.proofs.ticket_queue.TicketQueue.replace.Goals as goal

pub returns-clause-tickets : goal.returns-clause-tickets
returns-clause-tickets c =
    let items = c.self.inside.tickets.items in
    let at = c.self.inside.gone + c.args.at in
    rw (c.as_mut_slice.ensures.value, refill-same items (slice_set items at c.args.ticket) (length-set items at c.args.ticket), ← c.self.view_is) (drop-set-add c.self.inside.gone items c.args.at c.args.ticket)

-- The counts tell whether no ticket is obtrusive.
use Rattle.std.proofs.Common.{ap, not, ◌∙◌}
use Rattle.mdl_key.specs.Classes.{is_obtrusive}
use Rattle.mdl_book.proofs.CountLemmas.{none_counted-is, not_all-any}
use Rattle.mdl_book.proofs.ticket_list.TicketList.has_obtrusive.Goals as goal

pub returns : goal.returns
returns c =
    let inside = c.self.inside in
    rw (← c.self.view_is) (ap not (c.none_obtrusive.ensures ∙ none_counted-is (is_obtrusive c.args.kind) inside.counts.counts inside.tickets.tickets c.self.invariant.counted)
    ∙ not_all-any (λ ticket. is_obtrusive c.args.kind ticket.mode) inside.tickets.tickets)

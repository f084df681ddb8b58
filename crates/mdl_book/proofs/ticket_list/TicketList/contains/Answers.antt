-- There is such a ticket where the first has a place.
use Rattle.std.proofs.Common.{position, ap, ◌∙◌}
use Rattle.mdl_book.specs.Tickets.{is_ticket}
use Rattle.mdl_book.proofs.TicketLemmas.{is_some-place}
use Rattle.mdl_book.proofs.ticket_list.TicketList.contains.Goals as goal

pub returns : goal.returns
returns c =
    let test = is_ticket c.args.session c.args.number in
    rw (← c.self.view_is) (c.is_some.ensures ∙ is_some-place test c.self.inside.tickets.tickets c.place_of.result (c.place_of.ensures ∙ ap (position test) c.as_slice.ensures))

-- The ticket that goes is the first that passes the test.
use Rattle.std.proofs.Common.{◌≡◌, Some, None, position, ap, sym, ◌∙◌}
use Rattle.mdl_book.specs.Tickets.{is_ticket}
use Rattle.mdl_book.proofs.TicketLemmas.{found_at, none_at, remove-first}
use Rattle.mdl_book.proofs.ticket_list.TicketList.take.Goals as goal

pub returns-in_err-at-clause-answer : goal.returns-in_err-at-clause-answer
returns-in_err-at-clause-answer c =
    let test = is_ticket c.args.session c.args.number in
    let place : None ≡ position test c.self.inside.tickets.tickets = c.in_err-at.ensures ∙ ap (position test) c.as_slice.ensures in
    rw (c.from_residual.ensures, ← c.self.view_is, none_at test c.self.inside.tickets.tickets place)

pub returns-clause-answer : goal.returns-clause-answer
returns-clause-answer c =
    let test = is_ticket c.args.session c.args.number in
    let place : Some c.in_ok-at.at ≡ position test c.self.inside.tickets.tickets = c.in_ok-at.ensures ∙ ap (position test) c.as_slice.ensures in
    sym (found_at test c.args.self.now.tickets c.in_ok-at.at c.take_at.result (rw (← c.self.view_is) place) c.take_at.ensures.value)

pub returns-clause-tickets : goal.returns-clause-tickets
returns-clause-tickets c =
    let test = is_ticket c.args.session c.args.number in
    let place : Some c.in_ok-at.at ≡ position test c.self.inside.tickets.tickets = c.in_ok-at.ensures ∙ ap (position test) c.as_slice.ensures in
    c.take_at.ensures.tickets ∙ remove-first test c.args.self.now.tickets c.in_ok-at.at (rw (← c.self.view_is) place)

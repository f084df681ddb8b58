-- The first ticket that passes the test changes its mode.
use Rattle.std.proofs.Common.{◌≡◌, Some, None, position, length, ap, ◌∙◌, arith}
use Rattle.std.proofs.lemmas.List.{length-set}
use Rattle.mdl_book.specs.Tickets.{is_ticket, in_mode}
use Rattle.mdl_book.proofs.TicketLemmas.{found_at, none_at, with_mode_at, all_before, first-lt}
use Rattle.mdl_book.proofs.CountLemmas.{counts-set, counts-room, counted-one}
use Rattle.mdl_book.proofs.ticket_list.TicketList.set_mode.Goals as goal

pub returns-in_err-at-clause-answer : goal.returns-in_err-at-clause-answer
returns-in_err-at-clause-answer c =
    let test = is_ticket c.args.session c.args.number in
    let place : None ≡ position test c.self.inside.tickets.tickets = c.in_err-at.ensures ∙ ap (position test) c.as_slice.ensures in
    rw (c.from_residual.ensures, ← c.self.view_is, none_at test c.self.inside.tickets.tickets place)

pub returns-in_err-at-clause-tickets : goal.returns-in_err-at-clause-tickets
returns-in_err-at-clause-tickets c =
    let test = is_ticket c.args.session c.args.number in
    let tickets = c.self.inside.tickets.tickets in
    let place : None ≡ position test tickets = c.in_err-at.ensures ∙ ap (position test) c.as_slice.ensures in
    rw (← c.self.view_is) (all_before test (in_mode c.args.mode) tickets place)

pub subtract-requires : goal.subtract-requires
subtract-requires c =
    let counts = c.self.inside.counts.counts in
    let tickets = c.self.inside.tickets.tickets in
    let eleven : length counts ≡ 11 = omega arith in
    let place : Some c.in_ok-at.at ≡ position (is_ticket c.args.session c.args.number) tickets = c.in_ok-at.ensures ∙ ap (position (is_ticket c.args.session c.args.number)) c.as_slice.ensures in
    let within = first-lt (is_ticket c.args.session c.args.number) tickets c.in_ok-at.at place in
    counted-one counts tickets c.get-ticket.result eleven c.self.invariant.counted c.in_ok-at.at within c.get-ticket.ensures

pub add-requires : goal.add-requires
add-requires c =
    let counts = c.self.inside.counts.counts in
    let tickets = c.self.inside.tickets.tickets in
    let eleven : length counts ≡ 11 = omega arith in
    let place : Some c.in_ok-at.at ≡ position (is_ticket c.args.session c.args.number) tickets = c.in_ok-at.ensures ∙ ap (position (is_ticket c.args.session c.args.number)) c.as_slice.ensures in
    let within = first-lt (is_ticket c.args.session c.args.number) tickets c.in_ok-at.at place in
    rw (c.subtract.ensures.counts) (counts-room counts tickets c.get-ticket.result eleven c.self.invariant.counted c.in_ok-at.at within c.get-ticket.ensures c.args.mode c.self.invariant.limit)

pub invariant_of-self : goal.invariant_of-self
invariant_of-self c =
    let counts = c.self.inside.counts.counts in
    let tickets = c.self.inside.tickets.tickets in
    let eleven : length counts ≡ 11 = omega arith in
    let place : Some c.in_ok-at.at ≡ position (is_ticket c.args.session c.args.number) tickets = c.in_ok-at.ensures ∙ ap (position (is_ticket c.args.session c.args.number)) c.as_slice.ensures in
    let within = first-lt (is_ticket c.args.session c.args.number) tickets c.in_ok-at.at place in
    rw (c.add.ensures.counts, c.subtract.ensures.counts, c.replace.ensures.tickets) (record {
      limit = rw length-set c.self.invariant.limit;
      counted = counts-set counts tickets c.get-ticket.result eleven c.self.invariant.counted c.in_ok-at.at within c.get-ticket.ensures c.args.mode;
      marked = rw (c.add.ensures.counts, c.subtract.ensures.counts) at (c.add.ensures.marked (c.subtract.ensures.marked c.self.invariant.marked));
    })

pub returns-clause-answer : goal.returns-clause-answer
returns-clause-answer c =
    let test = is_ticket c.args.session c.args.number in
    let tickets = c.self.inside.tickets.tickets in
    let place : Some c.in_ok-at.at ≡ position test tickets = c.in_ok-at.ensures ∙ ap (position test) c.as_slice.ensures in
    rw (← c.self.view_is, found_at test tickets c.in_ok-at.at c.get-ticket.result place c.get-ticket.ensures)

pub returns-clause-tickets : goal.returns-clause-tickets
returns-clause-tickets c =
    let test = is_ticket c.args.session c.args.number in
    let tickets = c.self.inside.tickets.tickets in
    let place : Some c.in_ok-at.at ≡ position test tickets = c.in_ok-at.ensures ∙ ap (position test) c.as_slice.ensures in
    rw (← c.self.view_is, c.replace.ensures.tickets) (with_mode_at c.args.session c.args.number c.args.mode tickets c.in_ok-at.at c.get-ticket.result place c.get-ticket.ensures)

-- The ticket that goes isn't counted any more.
use Rattle.std.proofs.Common.{◌≡◌, length, arith}
use Rattle.std.proofs.lemmas.List.Edits.{length-remove}
use Rattle.mdl_book.proofs.CountLemmas.{counts-remove, counted-one}
use Rattle.mdl_book.proofs.ticket_list.TicketList.take_at.Goals as goal

pub subtract-requires : goal.subtract-requires
subtract-requires c =
    let counts = c.self.inside.counts.counts in
    let tickets = c.self.inside.tickets.tickets in
    let eleven : length counts ≡ 11 = omega arith in
    let within = rw (← c.self.view_is) at c.requires in
    counted-one counts tickets c.remove-ticket.result eleven c.self.invariant.counted c.args.at within c.remove-ticket.ensures.value

pub invariant_of-self : goal.invariant_of-self
invariant_of-self c =
    let counts = c.self.inside.counts.counts in
    let tickets = c.self.inside.tickets.tickets in
    let eleven : length counts ≡ 11 = omega arith in
    let within = rw (← c.self.view_is) at c.requires in
    rw (c.subtract.ensures.counts, c.remove-ticket.ensures.tickets) (record {
      limit = omega (arith, length-remove tickets c.args.at within, c.self.invariant.limit);
      counted = counts-remove counts tickets c.remove-ticket.result eleven c.self.invariant.counted c.args.at within c.remove-ticket.ensures.value;
      marked = rw (c.subtract.ensures.counts) at (c.subtract.ensures.marked c.self.invariant.marked);
    })

-- The ticket is counted.
use Rattle.std.proofs.Common.{◌≡◌, [], ◌∷◌, length, arith}
use Rattle.std.proofs.lemmas.List.{length-append}
use Rattle.mdl_book.proofs.CountLemmas.{counts-push}
use Rattle.mdl_book.proofs.ticket_list.TicketList.push_reserved.Goals as goal

pub invariant_of-self : goal.invariant_of-self
invariant_of-self c =
    let counts = c.self.inside.counts.counts in
    let tickets = c.self.inside.tickets.tickets in
    let eleven : length counts ≡ 11 = omega arith in
    let few = rw (← c.self.view_is) at c.requires.limit in
    rw (c.add.ensures.counts, c.push_reserved.ensures.tickets) (record {
      limit = omega (arith, length-append tickets (c.args.ticket ∷ []), few);
      counted = counts-push counts tickets c.args.ticket eleven c.self.invariant.counted;
      marked = rw (c.add.ensures.counts) at (c.add.ensures.marked c.self.invariant.marked);
    })

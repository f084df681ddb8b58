-- Where no counted mode clashes, no ticket does.
use Rattle.std.proofs.Common.{◌==◌, ◌∙◌, sym}
use Rattle.mdl_key.specs.Matrices.{clashes}
use Rattle.mdl_book.proofs.CountLemmas.{all_from_none_counted}
use Rattle.mdl_book.proofs.ticket_list.TicketList.all_stand_beside.Goals as goal

pub returns-then-none_clashes : goal.returns-then-none_clashes
returns-then-none_clashes c =
    rw (← c.self.view_is) (c.if-none_clashes.true ∙ sym (all_from_none_counted (clashes c.args.kind c.args.mode) (λ held. held.session == c.args.session) c.self.inside.counts.counts c.self.inside.tickets.tickets c.self.invariant.counted (sym c.none_clashes.ensures ∙ c.if-none_clashes.true)))

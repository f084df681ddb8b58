-- Where the wish waits behind no counted mode, it waits behind no ticket.
use Rattle.std.proofs.Common.{◌==◌, ◌∙◌, sym}
use Rattle.mdl_key.specs.Matrices.{waits_behind}
use Rattle.mdl_book.proofs.CountLemmas.{all_from_none_counted}
use Rattle.mdl_book.proofs.ticket_list.TicketList.all_overtaken.Goals as goal

pub returns-then-none_goes_before : goal.returns-then-none_goes_before
returns-then-none_goes_before c =
    rw (← c.self.view_is) (c.if-none_goes_before.true ∙ sym (all_from_none_counted (waits_behind c.args.kind c.args.mode) (λ pending. pending.session == c.args.session) c.self.inside.counts.counts c.self.inside.tickets.tickets c.self.invariant.counted (sym c.none_goes_before.ensures ∙ c.if-none_goes_before.true)))

-- What stands at the place is what is found.
use Rattle.std.proofs.Common.{sym, ◌∙◌}
use Rattle.mdl_book.proofs.TicketLemmas.{found_at, none_at}
use Rattle.mdl_calls.specs.SessionLocks.{is_number}
use Rattle.mdl_space.proofs.seat.Seat.ticket.Goals as goal

pub returns-in-Some : goal.returns-in-Some
returns-in-Some c =
    let place = rw c.deref.ensures.value at (sym c.in-Some.is ∙ c.index_of.ensures) in
    rw (← c.self.view_is) (sym (found_at (is_number c.args.id) c.self.inside.held.items c.in-Some.at c.index.result.now place c.index.ensures))

pub returns-in-None : goal.returns-in-None
returns-in-None c =
    let place = rw c.deref.ensures.value at (sym c.in-None.is ∙ c.index_of.ensures) in
    rw (← c.self.view_is) (sym (none_at (is_number c.args.id) c.self.inside.held.items place))

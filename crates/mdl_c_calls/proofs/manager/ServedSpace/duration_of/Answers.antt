-- The seat at the index is the session's, and the tickets that its context keeps rise.
use Rattle.std.proofs.Common.{sym, ap, ◌∙◌}
use Rattle.mdl_c_calls.specs.Listings.{duration_at_seat}
use Rattle.mdl_c_calls.specs.contracts.manager.ServedSpace.{the_view}
use Rattle.mdl_c_calls.proofs.ManagerLemmas.{rising-seat, seat-at}
use Rattle.mdl_c_calls.proofs.TransactionLemmas.{is-seat}
use Rattle.mdl_c_calls.proofs.manager.ServedSpace.duration_of.Goals as goal

pub duration_of-requires : goal.duration_of-requires
duration_of-requires c =
    let seat = c.index.result.now in let i = c.in-Ok.index in let manager = the_view c.self.inside in
    let is = is-seat manager c.args.self.now c.args.ticket.session i seat c.self.view_is c.in-Ok.ensures c.index.ensures in
    rising-seat c.self.inside.space i c.self.inside.sessions c.self.inside.seats.items seat c.self.invariant is.1 is.2

pub returns-in-Ok : goal.returns-in-Ok
returns-in-Ok c =
    let seat = c.index.result.now in let i = c.in-Ok.index in let manager = the_view c.self.inside in
    let is = is-seat manager c.args.self.now c.args.ticket.session i seat c.self.view_is c.in-Ok.ensures c.index.ensures in
    rw (← c.self.view_is)
    (c.duration_of.ensures ∙ ap (duration_at_seat c.args.ticket.number) (sym (seat-at c.args.ticket.session i manager seat is.0 is.1 is.2)))

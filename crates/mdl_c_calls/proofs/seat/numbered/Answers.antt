-- The ticket is where the search by halves ends.
use Rattle.std.proofs.Common.{rules, sym, ◌∙◌}
use Rattle.mdl_context.specs.Holdings.{has_ticket_number}
use Rattle.mdl_context.proofs.PlaceLemmas.{found_at, found_none}
use Rattle.mdl_c_calls.proofs.seat.numbered.Goals as goal

pub returns-in_err-at : goal.returns-in_err-at
returns-in_err-at c =
    let none = found_none (has_ticket_number c.args.id) c.args.tickets.now (sym c.in_err-at.was ∙ c.index_of.ensures) in
    search (rules, none)

pub returns : goal.returns
returns c = sym (found_at (has_ticket_number c.args.id) c.args.tickets.now c.in_ok-at.at _ (sym c.in_ok-at.was ∙ c.index_of.ensures)).1

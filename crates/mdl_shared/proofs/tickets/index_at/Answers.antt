-- One ticket alone has the number.
use Rattle.mdl_shared.proofs.Lemmas.{StandsAt, elsewhere, no_ticket, nowhere, rules}
use Rattle.mdl_shared.proofs.tickets.index_at.Goals as goal

pub returns-in_err-at : goal.returns-in_err-at
returns-in_err-at c =
    let none = nowhere c.args.place c.args.id c.args.tickets.now (rw c.in_err-at.was at c.index_of.ensures) in
    search (rules, none)

pub returns-else-from-place : goal.returns-else-from-place
returns-else-from-place c =
    let stands : StandsAt c.args.id c.in_ok-at.at c.args.tickets.now = rw c.in_ok-at.was at c.index_of.ensures in
    elsewhere c.args.tickets.now c.requires c.args.id c.args.place c.in_ok-at.at no_ticket stands (search rules)

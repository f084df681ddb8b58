-- The last ticket is where the list ends.
use Rattle.std.proofs.Common.{◌≡◌, ℕ, ◌-◌, Some, length, ap, ◌∙◌, rules}
use Rattle.std.specs.Prelude.{position, slice_get}
use Rattle.mdl_context.specs.Holdings.{has_ticket_number}
use Rattle.mdl_context.proofs.SearchLemmas.{number-last}
use Rattle.mdl_context.proofs.holdings.index_of.Goals as goal

pub returns-then-last-id : goal.returns-then-last-id
returns-then-last-id c =
    let tickets = c.args.tickets.now in
    let last = c.in-Some.last.now in
    let there : Some last ≡ slice_get tickets (length tickets - 1) = rw c.in-Some.is at c.last.ensures.value in
    let same : last.id ≡ c.args.id = cc in
    let found : Some (length tickets - 1) ≡ position (has_ticket_number c.args.id) tickets =
    number-last tickets last c.requires there ∙ ap (λ (id : ℕ). position (has_ticket_number id) tickets) same in
    search (rules, found)

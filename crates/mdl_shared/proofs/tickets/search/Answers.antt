-- The closure gives a ticket's number, and the numbers rise.
use Rattle.mdl_shared.proofs.Lemmas.{answers_always, rules}
use Rattle.mdl_shared.proofs.TicketSearch.{searched}
use Rattle.mdl_shared.proofs.tickets.search.Goals as goal

pub returns : goal.returns
returns c =
    let facts = c.binary_search_by_key.ensures in
    let by_number = facts.position (λ ticket. ticket.id) (answers_always _ _ _ (λ f a r g called. search rules)) in
    rw c.ok.ensures.value (searched c.args.tickets.now c.requires c.args.id _ facts.bound by_number)

-- The closure gives a ticket's number, and the numbers rise.
use Rattle.std.proofs.Common.{rules, ◌-◌, ◌∙◌, length, arith}
use Rattle.std.proofs.lemmas.List.Sorted.{answers_always}
use Rattle.mdl_space.proofs.SearchLemmas.{found-at, searched}
use Rattle.mdl_space.proofs.seat.index_of.Goals as goal

pub returns-in-len1-up : goal.returns-in-len1-up
returns-in-len1-up c = found-at c.args.held.now c.requires c.args.id (length c.args.held.now - 1) _ (omega (arith, c.in-len1-up.len_at_least)) c.if-newest-id.true

pub returns-in_default : goal.returns-in_default
returns-in_default c =
    let facts = c.binary_search_by_key.ensures in
    let by_number = facts.position (λ ticket. ticket.id) (answers_always _ _ _ (λ f a r g called. search rules)) in
    c.ok.ensures.value ∙ searched _ c.requires c.args.id _ facts.bound by_number

-- The closure gives a ticket's number, and the numbers rise.
use Rattle.std.proofs.Common.{rules, ◌∙◌}
use Rattle.std.proofs.lemmas.List.Sorted.{answers_always}
use Rattle.mdl_context.proofs.SearchLemmas.{searched}
use Rattle.mdl_c_calls.proofs.seat.index_of.Goals as goal

pub returns : goal.returns
returns c =
    let facts = c.binary_search_by_key.ensures in
    let by_number = facts.position (λ ticket. ticket.id) (answers_always _ _ _ (λ f a r g called. search rules)) in
    c.ok.ensures.value ∙ searched _ c.requires c.args.id _ facts.bound by_number

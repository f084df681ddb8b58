-- The closure compares by the keys, which are in a total order.
use Rattle.mdl_visits.proofs.Lemmas.{KnownKey, answers_always, is_lt, key-total, key_cmp, ranks_by, rules}
use Rattle.mdl_visits.proofs.calls.tables_of.sort_by_key.Goals as goal

pub returns-clause-sorted : goal.returns-clause-sorted
returns-clause-sorted c =
    c.sort_unstable_by.ensures.sorted (λ (one other : KnownKey). is_lt (key_cmp one.key other.key)) (ranks_by key-total (λ (x : KnownKey). x.key))
    (answers_always _ _ _ (λ f a r q called. search rules))

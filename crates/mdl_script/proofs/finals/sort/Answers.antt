-- The closure compares by the keys, which are in a total order.
use Rattle.std.proofs.Common.{rules}
use Rattle.std.specs.Ordering.{is_lt}
use Rattle.std.proofs.lemmas.List.Sorted.{answers_always, ranks_by}
use Rattle.mdl_key.specs.Keys.{key_cmp}
use Rattle.mdl_visits.specs.declared.audited.Audited.{Audited}
use Rattle.mdl_visits.proofs.Sorting.{key-total}
use Rattle.mdl_script.proofs.finals.sort.Goals as goal

pub returns : goal.returns
returns c = record {
  same = c.sort_unstable_by.ensures.permutation;
  rising = c.sort_unstable_by.ensures.sorted (λ (one other : Audited). is_lt (key_cmp one.book.key other.book.key)) (ranks_by key-total (λ (audited : Audited). audited.book.key))
      (answers_always _ _ _ (λ f a r q called. search rules));
}

-- One more place is looked at.
use Rattle.std.proofs.Common.{◌≡◌, ◌+◌, ◌-◌, ◌∙◌, ℕ, suc, true, All, List, length, filter, sym, ap, subst, arith, rules}
use Rattle.std.specs.List.{range_with_len}
use Rattle.mdl_core.proofs.CoreReads.{of_within}
use Rattle.mdl_core.specs.Words.{Core, has_defined_table, has_key, places_in_key_order}
use Rattle.mdl_space.proofs.TableLemmas.{listed-keys, one-more_listed}
use Rattle.mdl_space.proofs.core_space.CoreSpace.tables_of.Goals as goal

pub loop-index-preserved : goal.loop-index-preserved
loop-index-preserved c =
    let core : Core = c.args.self.now in
    let schema : List ℕ = c.args.schema.now in
    let index : ℕ = c.loop-index.index in
    let left : ℕ = length core.books - index in
    let listed : ℕ → ℕ → List ℕ = λ place n. places_in_key_order core (filter (has_defined_table schema core) (range_with_len place n)) in
    let counted : c.len-index.result ≡ length core.books = search rules in
    let inside = c.loop-index.auto.index in
    let again : index - 1 + 1 ≡ index = omega (arith, c.loop-index-test.true) in
    let more : length core.books - (index - 1) ≡ suc left = omega (arith, c.loop-index-test.true, inside, counted) in
    let so = one-more_listed core schema (index - 1 + 1) left c.loop-index.places.items (subst (λ k. c.loop-index.places.items ≡ listed (k + 1) left) (sym again) c.loop-index.invariant.listed) in
    let has : has_key (index - 1 + 1) core ≡ true = of_within (index - 1 + 1) (length core.books) (omega arith) (omega (arith, inside, counted, c.loop-index-test.true)) in
    record {
      listed = c.in_ok-list_table.ensures.listed ∙ so ∙ ap (listed (index - 1 + 1)) (sym more);
      keys = subst (All (λ place. has_key place core ≡ true)) (sym c.in_ok-list_table.ensures.listed)
          (listed-keys core (has_defined_table schema core (index - 1 + 1)) (index - 1 + 1) c.loop-index.places.items has c.loop-index.invariant.keys);
    }

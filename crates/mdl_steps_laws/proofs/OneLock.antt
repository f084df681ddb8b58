-- What changes at one place changes the lock of its key alone.
use Rattle.std.proofs.Common.{◌≡◌, ◌≢◌, ℕ, suc, ◌<◌, inl, inr, sym, ap, ◌∙◌, subst, arith}
use Rattle.mdl_steps_laws.proofs.Common.{AreKeysOf, AreLocksOf, BookView, Cell, Distinct, Holder, IsBookAt, KeyName, Lock, OnePlaceIsOneLock, Rule, SameElsewhere, Slot, State, View, all_fast, at_map, at_unmap, cell, fast_at, get_elem?, holder_at, nat_told, some, some-injective}
use Rattle.mdl_steps_laws.proofs.TableLocks.{one_place, same_keys}

module _ (s s′ : State Slot View) (place : ℕ) (same : cell s′ place ≡ cell s place) where
  book_again : (book : BookView) → IsBookAt s place book → IsBookAt s′ place book
  book_again book is = record {
    free = λ none. ap (λ (c : Cell). c.home) same ∙ is.free (sym (ap (λ (c : Cell). c.latch) same) ∙ none);
    taken = λ j v seat h has.
        let there = sym (ap (λ (c : Cell). get_elem? c.holders j) same) ∙ at_map (holder_at place) s′.views j v seat in
        let was = at_unmap (holder_at place) s.views j (holder_at place v) there in
        is.taken j was.0 was.1 h (ap (λ (l : Holder). l.held) was.2 ∙ has);
  }

  fast_again : fast_at s′ place ≡ fast_at s place
  fast_again = ap (λ (c : Cell). all_fast c.parts) same

pub one_lock : (s s′ : State Slot View) → Rule s → (old new : KeyName → Lock) → (are : AreLocksOf s old) → AreKeysOf s′ are.keys
    → (i : ℕ) (key : KeyName) → get_elem? are.keys i ≡ some key
    → ((place : ℕ) → 0 < place → place ≢ suc i → fast_at s′ place ≡ fast_at s place)
    → ((place : ℕ) → 0 < place → place ≢ suc i → (book : BookView) → IsBookAt s place book → IsBookAt s′ place book)
    → (new key).fast ≡ fast_at s′ (suc i) → IsBookAt s′ (suc i) (new key).book → SameElsewhere key old new → AreLocksOf s′ new
one_lock s s′ r old new are keys i key at fast_else book_else fast book elsewhere =
    let distinct : Distinct are.keys = subst Distinct (sym (same_keys s r are.keys are.keys_are)) r.distinct in
    let key_of : (j : ℕ) (k : KeyName) → get_elem? are.keys j ≡ some k → j ≡ i → k ≡ key =
    λ j k there e. some-injective k key (sym there ∙ ap (get_elem? are.keys) e ∙ at) in
    let away : (j : ℕ) (k : KeyName) → get_elem? are.keys j ≡ some k → j ≢ i → k ≢ key =
    λ j k there differs e. differs (one_place are.keys distinct j i k there (at ∙ ap (λ (x : KeyName). some x) (sym e))) in
    let other : (j : ℕ) → j ≢ i → suc j ≢ suc i = λ j differs e. differs (let same = e in omega arith) in
    record {
      keys = are.keys;
      keys_are = keys;
      fast_are = λ j k there. elim (nat_told j i) [
        | inl same ↦ subst (λ (x : KeyName). (new x).fast ≡ fast_at s′ (suc j)) (sym (key_of j k there same)) (fast ∙ ap (λ (n : ℕ). fast_at s′ (suc n)) (sym same))
        | inr differs ↦ ap (λ (l : Lock). l.fast) (elsewhere k (away j k there differs)) ∙ are.fast_are j k there ∙ sym (fast_else (suc j) (omega arith) (other j differs))
      ];
      book_is = λ j k there. elim (nat_told j i) [
        | inl same ↦ subst (λ (x : KeyName). IsBookAt s′ (suc j) (new x).book) (sym (key_of j k there same)) (subst (λ (n : ℕ). IsBookAt s′ (suc n) (new key).book) (sym same) book)
        | inr differs ↦ subst (λ (l : Lock). IsBookAt s′ (suc j) l.book) (sym (elsewhere k (away j k there differs))) (book_else (suc j) (omega arith) (other j differs) (old k).book (are.book_is j k there))
      ];
      without_place = λ k none. elsewhere k (λ e. none i (at ∙ ap (λ (x : KeyName). some x) (sym e))) ∙ are.without_place k none;
    }

pub one_place_is_one_lock : OnePlaceIsOneLock
one_place_is_one_lock s s′ r old new are keys i key at cells = one_lock s s′ r old new are keys i key at
    (λ place some else. fast_again s s′ place (cells place some else)) (λ place some else. book_again s s′ place (cells place some else))

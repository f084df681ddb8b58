-- Steps of a seat by which nothing is done in the system that the table tells: they change no book, no fast ticket, no wait and no definition.
use Rattle.std.proofs.Common.{◌≡◌, ◌≢◌, ℕ, suc, ◌+◌, ◌*◌, ◌<◌, ◌≤◌, inl, inr, List, length, set, get_or, sym, ap, ◌∙◌, subst, arith, get_or-set_other}
use Rattle.mdl_steps.specs.declared.slot.Slot.TheVariants as slot
use Rattle.mdl_steps_laws.proofs.FirstLemmas.{AreKeysOf, AreLocksOf, BookView, Definition, HasPlace, IsBookAt, IsTold, KeyName, Leaves, Lock, Maybe, Rule, SameSystem, Slot, State, System, View, book_else, fast_at, fast_same, get_elem?, granted_of, into_rule, keys_same, last_place, nat_told, same_definitions, same_members, some, wait_word, waits}
use Rattle.mdl_steps_laws.proofs.ToldDeeds.{locks_once}
use Rattle.mdl_steps_laws.proofs.WaitMet.{waits_rest}

-- ---- any step of a seat that leaves what its session asks for

module _ (s : State Slot View) (id : ℕ) (v w : View) (seat : get_elem? s.views id ≡ some v) (number : w.number ≡ v.number) (asks : w.asks ≡ v.asks) (ws : List ℕ) (homes : List (Maybe Slot)) where
  abbrev then_ : State Slot View
  then_ = record { words = ws; homes = homes; views = set s.views id w }

  -- where the locks told before are told then, and the wait words are the same, the system is
  pub same_system : Rule then_ → ((locks : KeyName → Lock) → AreLocksOf s locks → AreLocksOf then_ locks) → ((m : ℕ) → waits then_ m ≡ waits s m)
      → (a b : System Definition) → IsTold s a → IsTold then_ b → SameSystem a b
  same_system r′ stay words a b told told′ =
      let same : (k : KeyName) → told′.0 k ≡ told.0 k = locks_once then_ r′ told′.0 told.0 told′.1 (stay told.0 told.1) in
      record {
        granted = same_members told.0 told′.0 a b told.2 told′.2 (λ k. ap granted_of (same k));
        waits = waits_rest s id v w seat number asks ws homes words a b told told′ (λ k. ap (λ (l : Lock). l.book.waiting) (same k));
        definitions = same_definitions told.0 told′.0 a b told.2 told′.2 (λ k. ap (λ (l : Lock). l.book.standing) (same k));
      }

-- locks stay where the keys, the fast tickets and the books do
pub locks_stay : (s s′ : State Slot View) → Rule s → ((keys : List KeyName) → AreKeysOf s keys → AreKeysOf s′ keys) → ((q : ℕ) → fast_at s′ q ≡ fast_at s q)
    → ((q : ℕ) → 0 < q → q < length s.homes → (book : BookView) → IsBookAt s q book → IsBookAt s′ q book) → (locks : KeyName → Lock) → AreLocksOf s locks → AreLocksOf s′ locks
locks_stay s s′ r keys fast books locks are = record {
  keys = are.keys;
  keys_are = keys are.keys are.keys_are;
  fast_are = λ i key at. are.fast_are i key at ∙ sym (fast (suc i));
  book_is = λ i key at. books (suc i) (omega arith) (last_place s r i key (into_rule s r locks are i key at)) (locks key).book (are.book_is i key at);
  without_place = are.without_place;
}

-- ---- a step at one place, or at the directory

-- two books at home are one
pub one_book : (a b : BookView) → some (some (slot.Place a)) ≡ some (some (slot.Place b)) → a ≡ b
one_book a b e = cc

module _ (s : State Slot View) (r : Rule s) (place id : ℕ) (v w : View) (seat : get_elem? s.views id ≡ some v) (leaves : Leaves place v w) (asks : w.asks ≡ v.asks)
    (n m : ℕ) (near : (8 * place ≤ n) × (n < 8 * place + 8)) (homes : List (Maybe Slot)) (size : length homes ≡ length s.homes)
    (home_else : (q : ℕ) → q ≢ place → get_elem? homes q ≡ get_elem? s.homes q) where
  abbrev new : State Slot View
  new = record { words = set s.words n m; homes = homes; views = set s.views id w }

  pub waits_same : place ≤ length s.homes → (k : ℕ) → waits new k ≡ waits s k
  waits_same inside k =
      ap (λ (l : ℕ). get_or (set s.words n m) (wait_word l k) 0) size
      ∙ get_or-set_other s.words n (wait_word (length s.homes) k) m 0 (λ e. omega arith)

  -- where the book there stays
  pub place_rests : HasPlace s place → w.directory ≡ v.directory → ((book : BookView) → IsBookAt s place book → IsBookAt new place book)
      → Rule new → (a b : System Definition) → IsTold s a → IsTold new b → SameSystem a b
  place_rests has directory here r′ =
      let inside : place ≤ length s.homes = (let last = has.1 in omega arith) in
      let books : (q : ℕ) → 0 < q → q < length s.homes → (book : BookView) → IsBookAt s q book → IsBookAt new q book =
      λ q some last book is. elim (nat_told q place) [
        | inl e ↦ subst (λ (p : ℕ). IsBookAt new p book) (sym e) (here book (subst (λ (p : ℕ). IsBookAt s p book) e is))
        | inr else ↦ book_else s place n m id homes v w seat leaves near home_else q else book is
      ] in
      same_system s id v w seat leaves.number asks (set s.words n m) homes r′
      (locks_stay s new r (keys_same s place n m id homes v w seat leaves near home_else has.0 directory) (fast_same s place n m id homes v w seat leaves near home_else) books)
      (waits_same inside)

  -- where the keys in the directory stay, or the word is no place's
  pub elsewhere_rests : place ≤ length s.homes → ((q : ℕ) → 0 < q → q < length s.homes → q ≢ place) → ((keys : List KeyName) → AreKeysOf s keys → AreKeysOf new keys)
      → Rule new → (a b : System Definition) → IsTold s a → IsTold new b → SameSystem a b
  elsewhere_rests inside else keys r′ =
      same_system s id v w seat leaves.number asks (set s.words n m) homes r′
      (locks_stay s new r keys (fast_same s place n m id homes v w seat leaves near home_else)
      (λ q some last book is. book_else s place n m id homes v w seat leaves near home_else q (else q some last) book is))
      (waits_same inside)

-- A seat is split off: nothing is done in the system.
use Rattle.std.proofs.Common.{◌≡◌, ℕ, inl, inr, List, [], ◌∷◌, ◌++◌, map, set, Some, None, refl, sym, ap, ◌∙◌, subst}
use Rattle.mdl_steps_laws.proofs.FirstLemmas.{AreKeysOf, BookView, GrantedWait, IsBookAt, IsGrantedWait, KeyName, Keys, LatchRecord, Lock, Slot, SplittingRests, State, View, after_split, all_fast, at_longer, at_set, at_snoc, fast_at, first_after, get_elem?, granted_of, held_at, map_kept, now_there, own_at, part_at, same_definitions, same_members, some, split_off, ticket_by, told_alike, waiter_by, waiting_by, waits, was_there}
use Rattle.mdl_steps_laws.proofs.RestSteps.{locks_stay}
use Rattle.mdl_steps_laws.proofs.ToldDeeds.{locks_once}

-- one more view without a fast ticket
more_fast : (f : ℕ → ℕ) (q : ℕ) (views : List View) (more : View) → more.fast ≡ [] → all_fast (map (part_at f q) (views ++ more ∷ [])) ≡ all_fast (map (part_at f q) views)
more_fast f q [] more none = ap (λ ts. map (ticket_by more.number) (own_at q ts) ++ []) none
more_fast f q (v ∷ vs) more none = ap (λ ts. map (ticket_by v.number) (own_at q v.fast) ++ ts) (more_fast f q vs more none)

module _ (s : State Slot View) (v : View) (seat : get_elem? s.views 0 ≡ some v) where
  -- what stands there stood there, but for the last
  was : (P : View → Type 0) → P (first_after v) → P (split_off v) → ((j : ℕ) (u : View) → get_elem? s.views j ≡ some u → P u) → (j : ℕ) (u : View) → get_elem? (after_split s v).views j ≡ some u → P u
  was P mine last others j u there = elim (at_snoc (set s.views 0 (first_after v)) (split_off v) u j there) [
    | inl old ↦ elim (at_set s.views 0 j (first_after v) u old) [ inl same ↦ subst P same.1 mine | inr other ↦ others j u other.1 ]
    | inr new ↦ subst P new last
  ]

  keys_same : (keys : List KeyName) → AreKeysOf s keys → AreKeysOf (after_split s v) keys
  keys_same keys are = record {
    free = are.free;
    taken = was (λ (u : View). (k : Keys) → u.directory ≡ Some k → k.keys ≡ keys) (λ k has. are.taken 0 v seat k has) (λ k has. absurd (cc)) are.taken;
  }

  fast_same : (q : ℕ) → fast_at (after_split s v) q ≡ fast_at s q
  fast_same q =
      more_fast (waits s) q (set s.views 0 (first_after v)) (split_off v) refl
      ∙ ap all_fast (map_kept (part_at (waits s) q) s.views 0 v (first_after v) seat refl)

  book_same : (q : ℕ) (book : BookView) → IsBookAt s q book → IsBookAt (after_split s v) q book
  book_same q book is = record {
    free = is.free;
    taken = was (λ (u : View). (h : LatchRecord) → held_at q u.latches ≡ Some h → h.book ≡ book) (λ h has. is.taken 0 v seat h has) (λ h has. absurd (cc)) is.taken;
  }

  granted_was : (x : GrantedWait) → IsGrantedWait (after_split s v) x → IsGrantedWait s x
  granted_was x granted = elim (at_snoc (set s.views 0 (first_after v)) (split_off v) granted.1 granted.0 granted.3) [
    | inl old ↦
        let u = was_there s 0 v (first_after v) seat refl (λ _. Unit {0}) (λ _. refl) granted.0 granted.1 old tt in
        (granted.0, u.0, granted.2, u.1, u.2 ∙ granted.4, u.3 ∙ granted.5, granted.6, granted.7)
    | inr new ↦ (let asks : None ≡ Some granted.2 = ap (λ (u : View). u.asks) new ∙ granted.5 in absurd (cc))
  ]

  granted_now : (x : GrantedWait) → IsGrantedWait s x → IsGrantedWait (after_split s v) x
  granted_now x granted =
      let u = now_there s 0 v (first_after v) seat refl (λ _. Unit {0}) (λ _. refl) granted.0 granted.1 granted.3 tt in
      (granted.0, u.0, granted.2, at_longer (set s.views 0 (first_after v)) (split_off v ∷ []) granted.0 u.0 u.1, u.2 ∙ granted.4, u.3 ∙ granted.5, granted.6, granted.7)

pub splitting_rests : SplittingRests
splitting_rests s r v seat r′ = (
  r′,
  λ a b told told′.
      let s′ : State Slot View = after_split s v in
      let stays = locks_stay s (after_split s v) r (keys_same s v seat) (fast_same s v seat) (λ q some last. book_same s v seat q) told.0 told.1 in
      let same : (k : KeyName) → told′.0 k ≡ told.0 k = locks_once (after_split s v) r′ told′.0 told.0 told′.1 stays in
      record {
        granted = same_members told.0 told′.0 a b told.2 told′.2 (λ k. ap granted_of (same k));
        waits = record {
          waiting = λ k.
              waiting_by (after_split s v) told′.0 b told′.2 told′.3 k
              ∙ ap (λ (l : Lock). map (waiter_by (waits (after_split s v))) l.book.waiting) (same k)
              ∙ told_alike (waits s) (waits (after_split s v)) (told.0 k).book.waiting (λ t among. refl)
              ∙ sym (waiting_by s told.0 a told.2 told.3 k);
          unended = λ x. (
            (λ among. (told.3.unended x).1 (granted_was s v seat x ((told′.3.unended x).0 among))),
            λ among. (told′.3.unended x).1 (granted_now s v seat x ((told.3.unended x).0 among)),
          );
        };
        definitions = same_definitions told.0 told′.0 a b told.2 told′.2 (λ k. ap (λ (l : Lock). l.book.standing) (same k));
      },
)

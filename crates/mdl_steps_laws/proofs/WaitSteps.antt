-- The locks that the table tells after a step on a wait's word, and the waits that are granted and not ended.
use Rattle.std.proofs.Common.{◌≡◌, ◌≢◌, ℕ, suc, ◌%◌, ◌<◌, ◌≤◌, inl, inr, List, length, map, set, get_or, Some, refl, sym, ap, ◌∙◌, subst, arith, get_or-set_other, ◌↔◌}
use Rattle.mdl_steps_laws.proofs.Common.{AreKeysOf, AreLocksOf, BookView, Definition, GrantedWait, IsBookAt, IsGrantedWait, KeyName, LatchRecord, Lock, Rule, SameMembers, Slot, State, System, TellsWaits, View, all_fast, all_fast-noted, at_inside, at_map, at_set, fast_at, get_elem?, held_at, latch_word, map-set, nat_told, own_at, part_at, set_else, set_here, some, some-injective, ticket_by, wait_word, waits, waits_else}
use Rattle.mdl_steps_laws.proofs.SeatSteps.{any_waits}
use Rattle.mdl_steps_laws.proofs.TableLocks.{find_key, into_rule, first_place, last_place, same_book, same_keys}

-- a granted wait isn't of a session whose word tells of none
pub other_session : (s : State Slot View) (x : GrantedWait) → IsGrantedWait s x → (session : ℕ) → waits s session % 8 ≢ 2 → x.session ≢ session
other_session s x granted session not same =
    let word = granted.7 in
    let is : waits s session ≡ waits s x.session = ap (waits s) (sym same) in
    not (omega arith)

-- ---- views, where one is another that has its number

module _ (s : State Slot View) (id : ℕ) (v w : View) (seat : get_elem? s.views id ≡ some v) (number : w.number ≡ v.number) where
  module _ (Of : ℕ → Type 0) (asks_kept : Of v.number → w.asks ≡ v.asks) where
    pub now_there : (j : ℕ) (u : View) → get_elem? s.views j ≡ some u → Of u.number
        → (u′ : View) × (get_elem? (set s.views id w) j ≡ some u′) × (u′.number ≡ u.number) × (u′.asks ≡ u.asks)
    now_there j u there of = elim (nat_told j id) [
      | inl e ↦
          let is : u ≡ v = some-injective u v (sym there ∙ ap (get_elem? s.views) e ∙ seat) in (
            w,
            subst (λ (k : ℕ). get_elem? (set s.views id w) k ≡ some w) (sym e) (set_here s.views id w (at_inside s.views id v seat)),
            number ∙ ap (λ (x : View). x.number) (sym is),
            asks_kept (subst (λ (x : View). Of x.number) is of) ∙ ap (λ (x : View). x.asks) (sym is),
          )
      | inr e ↦ (u, set_else s.views id j w e ∙ there, refl, refl)
    ]

    pub was_there : (j : ℕ) (u′ : View) → get_elem? (set s.views id w) j ≡ some u′ → Of u′.number
        → (u : View) × (get_elem? s.views j ≡ some u) × (u.number ≡ u′.number) × (u.asks ≡ u′.asks)
    was_there j u′ there of = elim (at_set s.views id j w u′ there) [
      | inl e ↦
          let same : v.number ≡ u′.number = sym number ∙ ap (λ (x : View). x.number) e.1 in (
            v,
            subst (λ (k : ℕ). get_elem? s.views k ≡ some v) (sym e.0) seat,
            same,
            sym (asks_kept (subst Of (sym same) of)) ∙ ap (λ (x : View). x.asks) e.1,
          )
      | inr e ↦ (u′, e.1, refl, refl)
    ]

-- what a step on a wait's word leaves of its seat's view
pub record Stays (v w : View) : Type 0 where
  pub number : w.number ≡ v.number
  pub fast : w.fast ≡ v.fast
  pub directory : w.directory ≡ v.directory

module _ (s : State Slot View) (r : Rule s) (session n id : ℕ) (v w : View) (seat : get_elem? s.views id ≡ some v) (stays : Stays v w) where
  abbrev pub after : State Slot View
  after = record { words = set s.words (wait_word (length s.homes) session) n; homes = s.homes; views = set s.views id w }

  latch_same : (q : ℕ) → q ≤ length s.homes → get_or (set s.words (wait_word (length s.homes) session) n) (latch_word q) 0 ≡ get_or s.words (latch_word q) 0
  latch_same q inside = get_or-set_other s.words (wait_word (length s.homes) session) (latch_word q) n 0 (λ e. omega arith)

  fast_same : (q : ℕ) → fast_at after q ≡ fast_at s q
  fast_same q =
      let fast : map (ticket_by w.number) (own_at q w.fast) ≡ map (ticket_by v.number) (own_at q v.fast) =
      λ i. map (ticket_by (stays.number i)) (own_at q (stays.fast i)) in
      any_waits (waits after) (waits s) q (set s.views id w)
      ∙ ap all_fast (map-set (part_at (waits s) q) s.views id w)
      ∙ all_fast-noted (map (part_at (waits s) q) s.views) id (part_at (waits s) q v) (part_at (waits s) q w) (at_map (part_at (waits s) q) s.views id v seat) fast

  keys_same : (keys : List KeyName) → AreKeysOf s keys → AreKeysOf after keys
  keys_same keys are = record {
    free = λ none. are.free (sym (latch_same 0 (omega arith)) ∙ none);
    taken = λ j u there k has. elim (at_set s.views id j w u there) [
      | inl mine ↦ are.taken id v seat k (sym stays.directory ∙ ap (λ (x : View). x.directory) mine.1 ∙ has)
      | inr other ↦ are.taken j u other.1 k has
    ];
  }

  book_same : (q : ℕ) → q < length s.homes → held_at q w.latches ≡ held_at q v.latches → (book : BookView) → IsBookAt s q book → IsBookAt after q book
  book_same q inside held book is = record {
    free = λ none. is.free (sym (latch_same q (omega arith)) ∙ none);
    taken = λ j u there h has. elim (at_set s.views id j w u there) [
      | inl mine ↦ is.taken id v seat h (sym held ∙ ap (λ (x : View). held_at q x.latches) mine.1 ∙ has)
      | inr other ↦ is.taken j u other.1 h has
    ];
  }

  -- ---- locks

  module _ (r′ : Rule after) (old new : KeyName → Lock) (are : AreLocksOf s old) (are′ : AreLocksOf after new) where
    keys_kept : are′.keys ≡ are.keys
    keys_kept = same_keys after r′ are′.keys are′.keys_are ∙ sym (same_keys after r′ are.keys (keys_same are.keys are.keys_are))

    fast_kept : (key : KeyName) (i : ℕ) → get_elem? are.keys i ≡ some key → (new key).fast ≡ (old key).fast
    fast_kept key i at =
        are′.fast_are i key (subst (λ (ks : List KeyName). get_elem? ks i ≡ some key) (sym keys_kept) at) ∙ fast_same (suc i) ∙ sym (are.fast_are i key at)

    -- a lock whose record the session's view has as before
    pub lock_else : (key : KeyName) → ((i : ℕ) → get_elem? are.keys i ≡ some key → held_at (suc i) w.latches ≡ held_at (suc i) v.latches) → new key ≡ old key
    lock_else key held = elim (find_key are.keys key) [
      | inl at ↦
          let there = subst (λ (ks : List KeyName). get_elem? ks at.0 ≡ some key) (sym keys_kept) at.1 in
          let in_rule = into_rule s r old are at.0 key at.1 in
          let first = first_place s r at.0 key in_rule in
          let last = last_place s r at.0 key in_rule in
          let fast = fast_kept key at.0 at.1 in
          let book : (new key).book ≡ (old key).book =
          same_book after r′ (suc at.0) first last (new key).book (are′.book_is at.0 key there)
          ∙ sym (same_book after r′ (suc at.0) first last (old key).book (book_same (suc at.0) last (held at.0 at.1) (old key).book (are.book_is at.0 key at.1))) in
          λ i. record { fast = fast i; book = book i }
      | inr none ↦ are′.without_place key (λ i e. none i (subst (λ (ks : List KeyName). get_elem? ks i ≡ some key) keys_kept e)) ∙ sym (are.without_place key none)
    ]

    -- and one whose record the view has now
    pub lock_here : (key : KeyName) (i : ℕ) → get_elem? are.keys i ≡ some key → (h : LatchRecord) → held_at (suc i) w.latches ≡ Some h → new key ≡ record { fast = (old key).fast; book = h.book }
    lock_here key i at h has =
        let there = subst (λ (ks : List KeyName). get_elem? ks i ≡ some key) (sym keys_kept) at in
        let fast = fast_kept key i at in
        let book = sym ((are′.book_is i key there).taken id w (set_here s.views id w (at_inside s.views id v seat)) h has) in
        λ j. record { fast = fast j; book = book j }

  -- ---- granted waits

  -- those of other sessions stay
  module _ (asks_kept : v.number ≢ session → w.asks ≡ v.asks) where
    pub unended_else : (x : GrantedWait) → x.session ≢ session → IsGrantedWait after x ↔ IsGrantedWait s x
    unended_else x else = (
      (λ granted.
          let of : granted.1.number ≢ session = λ e. else (sym granted.4 ∙ e) in
          let was = was_there s id v w seat stays.number (λ m. m ≢ session) asks_kept granted.0 granted.1 granted.3 of in
          (granted.0, was.0, granted.2, was.1, was.2 ∙ granted.4, was.3 ∙ granted.5, granted.6, sym (waits_else s r session n id v w x.session else) ∙ granted.7)),
      λ granted.
          let of : granted.1.number ≢ session = λ e. else (sym granted.4 ∙ e) in
          let now = now_there s id v w seat stays.number (λ m. m ≢ session) asks_kept granted.0 granted.1 granted.3 of in
          (granted.0, now.0, granted.2, now.1, now.2 ∙ granted.4, now.3 ∙ granted.5, granted.6, waits_else s r session n id v w x.session else ∙ granted.7),
    )

    -- and all of them, where the session's word tells of no granted wait before and after
    pub unended_same : waits s session % 8 ≢ 2 → waits after session % 8 ≢ 2 → (a b : System Definition) → TellsWaits s a → TellsWaits after b → SameMembers a.unended b.unended
    unended_same was now a b told told′ x = (
      (λ among.
          let granted = (told′.unended x).0 among in
          (told.unended x).1 ((unended_else x (other_session after x granted session now)).0 granted)),
      λ among.
          let granted = (told.unended x).0 among in
          (told′.unended x).1 ((unended_else x (other_session s x granted session was)).1 granted),
    )

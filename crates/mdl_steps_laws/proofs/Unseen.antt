-- All deadlocks go through sessions that have yet to search.
use Rattle.std.proofs.Common.{◌≡◌, ◌≢◌, ℕ, zero, suc, ◌==◌, ◌&&◌, ◌||◌, not, Bool, true, false, inl, inr, List, [], ◌∷◌, ◌++◌, length, set, get_or, refl, sym, ap, ◌∙◌, subst, arith, eq-eqb, eqb-true, Contains}
use Rattle.mdl_system.proofs.DeadlockCauses.{debts-end, event-through, run-through, through-more}
use Rattle.mdl_system.proofs.DeadlockRounds.{deadlock-of_member}
use Rattle.mdl_steps_laws.proofs.FirstLemmas.{Act, BringsOrRests, DeadlocksGoThrough, Definition, IsDeadlock, IsTold, IsWholeChange, KeyName, Leads, Makes, Mine, NoDeadlockIsUnseen, NoDeadlockOnceAllHaveSearched, Reached, Rule, SameSystem, SeesNoDeadlock, Slot, State, Step, System, TableChange, View, WaitState, Waiter, WaitsFor, Wishes, and_from, and_parts, applied, begins_wait, code_of, false≢true, get_elem?, list_any, nobody_waits, or_cases, or_left, or_right, some, some-injective, some-ne-none, stepped, unsettled_state, wait_in, wait_state, waits}
use Rattle.mdl_steps_laws.proofs.EachStep.{each_step_is_one_event}
use Rattle.mdl_steps_laws.proofs.Marks.{KeepsMark, mark_kept, marked}
use Rattle.mdl_steps_laws.proofs.Sights.{who_sees_no_deadlock_is_in_none}
use Rattle.mdl_steps_laws.proofs.Wells.{rule_of, a_system, reached_tables_are_well_numbered}

abbrev by_number : ℕ → View → Bool
by_number n v = v.number == n && v.searches

-- a session with this number has its mark
abbrev has_mark : State Slot View → ℕ → Bool
has_mark s n = list_any (by_number n) s.views

one_kept : (n : ℕ) (v w : View) → KeepsMark v w → by_number n v ≡ true → by_number n w ≡ true
one_kept n v w keeps is = both (v.number == n) v.searches is (rw keeps.0 refl) keeps.1
  where
    both : (a b : Bool) → (a && b) ≡ true → (w.number == n) ≡ a → (b ≡ true → w.searches ≡ true) → by_number n w ≡ true
    both true b is same then_ = rw (same, then_ is) refl
    both false b is same then_ = absurd (cc)

-- the mark of another session stays
other_kept : (n : ℕ) (v w : View) → n ≢ v.number → by_number n v ≡ true → by_number n w ≡ true
other_kept n v w else is = (let parts = and_parts (v.number == n) v.searches is in absurd (else (sym (eqb-true v.number n parts.0))))

-- the marks of all sessions, where one keeps its own
any_kept : (n : ℕ) (vs : List View) (id : ℕ) (v w : View) → get_elem? vs id ≡ some v → (by_number n v ≡ true → by_number n w ≡ true)
    → list_any (by_number n) vs ≡ true → list_any (by_number n) (set vs id w) ≡ true
any_kept n [] id v w at keeps is = is
any_kept n (x ∷ xs) zero v w at keeps is = elim (or_cases (by_number n x) (list_any (by_number n) xs) is) [
  | inl here ↦ or_left _ _ (keeps (subst (λ (y : View). by_number n y ≡ true) (some-injective x v at) here))
  | inr later ↦ or_right (by_number n w) _ later
]
any_kept n (x ∷ xs) (suc id) v w at keeps is = elim (or_cases (by_number n x) (list_any (by_number n) xs) is) [
  | inl here ↦ or_left _ _ here
  | inr later ↦ or_right (by_number n x) _ (any_kept n xs id v w at keeps later)
]

any_marked : (n : ℕ) (vs : List View) (id : ℕ) (v w : View) → get_elem? vs id ≡ some v → n ≡ w.number → w.searches ≡ true → list_any (by_number n) (set vs id w) ≡ true
any_marked n [] id v w at same is = absurd (some-ne-none v (sym at))
any_marked n (x ∷ xs) zero v w at same is = or_left (by_number n w) (list_any (by_number n) xs) (rw (eq-eqb w.number n (sym same), is) refl)
any_marked n (x ∷ xs) (suc id) v w at same is = or_right (by_number n x) _ (any_marked n xs id v w at same is)

any_longer : (n : ℕ) (vs ws : List View) → list_any (by_number n) vs ≡ true → list_any (by_number n) (vs ++ ws) ≡ true
any_longer n [] ws is = absurd (cc)
any_longer n (x ∷ xs) ws is = elim (or_cases (by_number n x) (list_any (by_number n) xs) is) [
  | inl here ↦ or_left _ _ here
  | inr later ↦ or_right (by_number n x) _ (any_longer n xs ws later)
]

module _ (s t : State Slot View) (before : Reached s) (rule : Rule t) (none : (a : System Definition) → IsTold s a → DeadlocksGoThrough (has_mark s) a) (b : System Definition) (told : IsTold t b) where
  a : System Definition
  a = (a_system s (rule_of s before)).0

  told_a : IsTold s a
  unfolding a
  told_a = (a_system s (rule_of s before)).1

  -- nothing happens: deadlocks go through those sessions through which they went, if these have yet to search then
  rests_by : (sessions : ℕ → Bool) → DeadlocksGoThrough sessions a → ((n : ℕ) → sessions n ≡ true → has_mark t n ≡ true) → SameSystem a b → DeadlocksGoThrough (has_mark t) b
  rests_by sessions through keeps same =
      through-more b (λ n. sessions n || false) (has_mark t) (λ n is. keeps n (elim (or_cases (sessions n) false is) [ inl old ↦ old | inr new ↦ absurd (cc) ]))
      (run-through (λ (at : KeyName). applied at.namespace) [] a b sessions (reached_tables_are_well_numbered s before a told_a) same through)

  rests : ((n : ℕ) → has_mark s n ≡ true → has_mark t n ≡ true) → SameSystem a b → DeadlocksGoThrough (has_mark t) b
  rests keeps same = rests_by (has_mark s) (none a told_a) keeps same

  -- a session saw that it is in no deadlock, and has no search left to make
  sees_none : (id : ℕ) (m : Mine) → get_elem? s.views id ≡ some m.0 → SeesNoDeadlock (length s.homes) m
      → ((n : ℕ) → n ≢ m.0.number → has_mark s n ≡ true → has_mark t n ≡ true) → SameSystem a b → DeadlocksGoThrough (has_mark t) b
  sees_none id m seat sees keeps same =
      rests_by (λ n. has_mark s n && not (n == m.0.number)) (debts-end m.0.number (has_mark s) a (who_sees_no_deadlock_is_in_none s before id m seat sees a told_a) (none a told_a))
      (λ n is. (let parts = and_parts (has_mark s n) (not (n == m.0.number)) is in keeps n (apart n m.0.number parts.1) parts.0)) same
    where
      apart : (n k : ℕ) → not (n == k) ≡ true → n ≢ k
      apart n k e is = false≢true (sym (ap not (eq-eqb n k is)) ∙ e)

  -- the session that makes the step keeps its mark
  marks : (id : ℕ) (m m′ : Mine) (st : Step Slot) (left : ℕ) (act : Act Slot) → get_elem? s.views id ≡ some m.0 → (made : Makes st m (get_or s.words st.word 0) m′)
      → t ≡ stepped s st.word left id m.1 m′.0 act → BringsOrRests s t made → KeepsMark m.0 m′.0 → DeadlocksGoThrough (has_mark t) b
  unfolding a
  marks id m m′ st left act seat made moves brought keep =
      let keeps : (n : ℕ) → has_mark s n ≡ true → has_mark t n ≡ true =
      λ n is. subst (λ (x : State Slot View). has_mark x n ≡ true) (sym moves) (any_kept n s.views id m.0 m′.0 seat (one_kept n m.0 m′.0 keep) is) in
      elim (marked s t st m (get_or s.words st.word 0) m′ made brought (a_system s (rule_of s before)).0 b (a_system s (rule_of s before)).1 told) [
        | inl e ↦
            through-more b (λ n. has_mark s n || begins_wait e.0 n) (has_mark t)
            (λ n is. elim (or_cases (has_mark s n) (begins_wait e.0 n) is) [
              | inl old ↦ keeps n old
              | inr new ↦ (let its = e.2 n new in subst (λ (x : State Slot View). has_mark x n ≡ true) (sym moves) (any_marked n s.views id m.0 m′.0 seat its.0 its.1))
            ])
            (event-through (λ (at : KeyName). applied at.namespace) e.0 (a_system s (rule_of s before)).0 b (has_mark s)
            (reached_tables_are_well_numbered s before (a_system s (rule_of s before)).0 (a_system s (rule_of s before)).1) e.1 (none (a_system s (rule_of s before)).0 (a_system s (rule_of s before)).1))
        | inr same ↦ rests keeps same
      ]

  by_turn : (turn : TableChange s t) → IsWholeChange turn → DeadlocksGoThrough (has_mark t) b
  unfolding a
  by_turn (TableChange.Steps id m m′ st left act seat made moves) whole =
      let brought = each_step_is_one_event s t (rule_of s before) rule (TableChange.Steps id m m′ st left act seat made moves) whole in
      elim (mark_kept s t m st (get_or s.words st.word 0) m′ made) [
        | inl keep ↦ marks id m m′ st left act seat made moves brought keep
        | inr ends ↦
            sees_none id m seat (subst (λ (k : ℕ). SeesNoDeadlock k m) whole.0 ends.0)
            (λ n else is. subst (λ (x : State Slot View). has_mark x n ≡ true) (sym moves) (any_kept n s.views id m.0 m′.0 seat (other_kept n m.0 m′.0 else) is))
            ((ends.2 brought).1 (a_system s (rule_of s before)).0 b (a_system s (rule_of s before)).1 told)
      ]
  by_turn (TableChange.Splits v first more seat fast slow reads moves) whole =
      let brought = each_step_is_one_event s t (rule_of s before) rule (TableChange.Splits v first more seat fast slow reads moves) whole in
      rests (λ n is. subst (λ (x : State Slot View). has_mark x n ≡ true) (sym moves)
      (any_longer n (set s.views 0 first) (more ∷ []) (any_kept n s.views 0 v first seat
      (one_kept n v first (ap (λ (x : View). x.number) whole.0, λ marked. ap (λ (x : View). x.searches) whole.0 ∙ marked)) is)))
      (brought.1 (a_system s (rule_of s before)).0 b (a_system s (rule_of s before)).1 told)

through_marked : (s : State Slot View) → Reached s → (a : System Definition) → IsTold s a → DeadlocksGoThrough (has_mark s) a
through_marked s (Reached.Opens sessions words slots open_) a told = λ from cycle is. absurd (no_tie from is.0 is.3)
  where
    none_waits : (x y : ℕ) → WaitsFor a x y → ⊥
    none_waits x y tie = nobody_waits sessions words slots open_ a told tie.1.0 tie.1.1 tie.1.2.0

    no_tie : (from : ℕ) (xs : List ℕ) → Leads (WaitsFor a) from from xs → ⊥
    no_tie from [] tie = none_waits from from tie
    no_tie from (x ∷ xs) ties = none_waits from x ties.0
through_marked t (Reached.Goes s _ before rule turn whole) b told = by_turn s t before rule (through_marked s before) b told turn whole

-- ---- each member's wait is unsettled

waits_on : (system : System Definition) (target session : ℕ) (rest : List ℕ) → Leads (WaitsFor system) target session rest → (key : KeyName) × (wish : Waiter) × Wishes system session key wish
waits_on system target session [] tie = (tie.1.0, tie.1.1, tie.1.2)
waits_on system target session (next ∷ rest) ties = (ties.0.1.0, ties.0.1.1, ties.0.1.2)

is_open : (s : State Slot View) (a : System Definition) → IsTold s a → (from : ℕ) (cycle : List ℕ) → IsDeadlock a from cycle → (member : ℕ) → Contains cycle member
    → wait_state (waits s member) ≡ unsettled_state
is_open s a (locks, of_table, tells, told) from cycle is member among =
    let own = deadlock-of_member a from cycle is member among in
    let wish = waits_on a member member own.1.0 own.1.3 in
    let word : waits s member ≡ wait_in wish.1.wait unsettled_state =
    ap (waits s) (sym wish.2.1) ∙ told.waiting wish.0 wish.1 wish.2.0 ∙ ap (λ (x : WaitState). wait_in wish.1.wait (code_of x)) wish.2.2 in
    let state : wait_state (wait_in wish.1.wait unsettled_state) ≡ unsettled_state = omega arith in
    ap wait_state word ∙ state

pub no_deadlock_is_unseen : NoDeadlockIsUnseen
no_deadlock_is_unseen s reached a told from cycle is =
    let h = through_marked s reached a told from cycle is in
    (h.0, h.1, and_from (wait_state (waits s h.0) == unsettled_state) (has_mark s h.0) (eq-eqb (wait_state (waits s h.0)) unsettled_state (is_open s a told from cycle is h.0 h.1)) h.2)

-- ---- nobody has yet to search

unmarked : (n : ℕ) (vs : List View) → ((i : ℕ) (v : View) → get_elem? vs i ≡ some v → v.number ≡ n → v.searches ≡ false) → list_any (by_number n) vs ≡ true → ⊥
unmarked n [] all is = cc
unmarked n (x ∷ xs) all is = elim (or_cases (by_number n x) (list_any (by_number n) xs) is) [
  | inl here ↦ (
      let parts = and_parts (x.number == n) x.searches here in
      let marked = parts.1 in
      let none = all 0 x refl (eqb-true x.number n parts.0) in
      absurd (cc))
  | inr later ↦ unmarked n xs (λ i v at. all (suc i) v at) later
]

pub no_deadlock_once_all_have_searched : NoDeadlockOnceAllHaveSearched
no_deadlock_once_all_have_searched s reached all a told from cycle is =
    let seen = through_marked s reached a told from cycle is in
    unmarked seen.0 s.views
    (λ i v at same. all i v at (subst (λ (n : ℕ). wait_state (waits s n) ≡ unsettled_state) (sym same) (is_open s a told from cycle is seen.0 seen.1))) seen.2

-- A wait that was met settled stays so, and keeps its number.
use Rattle.std.proofs.Common.{◌≡◌, ◌⊎◌, ℕ, zero, suc, ◌/◌, ◌%◌, ◌<◌, true, inl, inr, List, [], ◌∷◌, ◌++◌, set, length, get_or, Some, None, refl, sym, ap, ◌∙◌, subst, arith, Option, Contains}
use Rattle.mdl_steps_laws.proofs.FirstLemmas.{Act, BookView, Contains-append_cases, Contains-cons_cases, Contains-none, HasPlace, IsWhole, IsWholeChange, Makes, MeetsWaiter, Mine, Reached, Rule, Slot, State, Step, StepRecord, TableChange, Ticket, View, asks_there, at_inside, at_longer, at_map, at_set, at_snoc, blank, cases_eq, first_after, get_elem?, held_at, holder_at, homes_length, is_some, numbers_for, set_else, set_here, some, some-injective, some-ne-none, stepped, ticket_of, wait_word, waiter_of, waits}
use Rattle.mdl_steps_laws.proofs.Shifts.{Shifts, shifts, left_quiet}
use Rattle.mdl_steps_laws.proofs.Wells.{rule_of}
use Rattle.mdl_steps_laws.specs.Waits.{MetWaitsStay, StaysMet}

-- ---- words

set_cases : (xs : List ℕ) (i j n : ℕ) → ◌≡◌ {A = ℕ} (get_or (set xs i n) j 0) (get_or xs j 0) ⊎ ((j ≡ i) × (◌≡◌ {A = ℕ} (get_or (set xs i n) j 0) n))
set_cases [] i j n = inl refl
set_cases (x ∷ xs) zero zero n = inr (refl, refl)
set_cases (x ∷ xs) zero (suc j) n = inl refl
set_cases (x ∷ xs) (suc i) zero n = inl refl
set_cases (x ∷ xs) (suc i) (suc j) n = elim (set_cases xs i j n) [ inl same ↦ inl same | inr new ↦ inr (ap (λ k. suc k) new.0, new.1) ]

none_of_one : (x y : StepRecord) → Contains (x ∷ []) y → x ≡ y
none_of_one x y among = elim (Contains-cons_cases x [] y among) [ inl later ↦ absurd (Contains-none y later) | inr here ↦ sym here ]

-- ---- one step

module _ (s : State Slot View) (r : Rule s) (id : ℕ) (m m′ : Mine) (st : Step Slot) (left : ℕ) (act : Act Slot) (seat : get_elem? s.views id ≡ some m.0)
    (turn : Makes st m (get_or s.words st.word 0) m′) (slots : st.slots ≡ length s.homes)
    (whole : IsWhole s left act turn) where
  abbrev t : State Slot View
  t = stepped s st.word left id m.1 m′.0 act

  size : length t.homes ≡ length s.homes
  size = homes_length s.homes m.1 act

  shift : Shifts st (get_or s.words st.word 0) m m′
  shift = shifts m st (get_or s.words st.word 0) m′ turn

  -- who isn't unsettled stays so, or is the one that opens a wait
  quiet : (n : ℕ) → (waits s n % 8 ≡ 1 → ⊥) → (waits t n % 8 ≡ 1 → ⊥) ⊎ ((m.0.asks ≡ None) × (n ≡ m.0.number))
  quiet n before =
      let index : wait_word (length t.homes) n ≡ wait_word (length s.homes) n = ap (λ (k : ℕ). wait_word k n) size in
      elim (set_cases s.words st.word (wait_word (length s.homes) n) left) [
        | inl same ↦ inl (λ is. before (ap (λ (k : ℕ). k % 8) (sym (ap (λ (j : ℕ). get_or t.words j 0) index ∙ same)) ∙ is))
        | inr new ↦ elim (left_quiet s left act st m (get_or s.words st.word 0) m′ turn whole slots n (sym new.0) (λ is. before (ap (λ (j : ℕ). get_or s.words j 0 % 8) new.0 ∙ is))) [
          | inl stays ↦ inl (λ is. stays (ap (λ (k : ℕ). k % 8) (sym (ap (λ (j : ℕ). get_or t.words j 0) index ∙ new.1)) ∙ is))
          | inr opens ↦ inr opens
        ]
      ]

  inside : id < length s.views
  inside = at_inside s.views id m.0 seat

  -- what stays met goes on
  carry : (session number : ℕ) (e : StepRecord) → 0 < session → StaysMet s session number e → StaysMet t session number e
  unfolding shift
  carry session number e some_session (j, w, at, is, below, facts) = elim (cases_eq j id) [
    | inl same ↦
        let own : w ≡ m.0 = some-injective w m.0 (sym (subst (λ (k : ℕ). get_elem? s.views k ≡ some w) same at) ∙ seat) in
        let next : w.next ≡ m.0.next = ap (λ (v : View). v.next) own in
        let rises = (shifts m st (get_or s.words st.word 0) m′ turn).next in (
          id,
          m′.0,
          set_here s.views id m′.0 inside,
          (shifts m st (get_or s.words st.word 0) m′ turn).number ∙ sym (ap (λ (v : View). v.number) own) ∙ is,
          omega arith,
          λ a asks number_is.
              elim ((shifts m st (get_or s.words st.word 0) m′ turn).asks a asks) [
                | inl old ↦
                    let was = facts a (ap (λ (v : View). v.asks) own ∙ old.0) number_is in (
                      was.0 ∙ ap (λ (v : View). v.waits) own ∙ sym old.1,
                      λ met. elim (quiet session (was.1 met)) [
                        | inl stays ↦ stays
                        | inr opens ↦ (let idle = opens.0 in let open_ = old.0 in absurd (cc))
                      ],
                    )
                | inr new ↦ absurd (omega arith)
              ],
        )
    | inr else ↦ (
      j,
      w,
      set_else s.views id j m′.0 else ∙ at,
      is,
      below,
      λ a asks number_is.
          (let was = facts a asks number_is in (
            was.0,
            λ met. elim (quiet session (was.1 met)) [
              | inl stays ↦ stays
              | inr opens ↦ absurd (else (r.enrolled.apart j id session
                  (at_map (λ (x : View). x.number) s.views j w at ∙ ap (λ (n : ℕ). some n) is)
                  (at_map (λ (x : View). x.number) s.views id m.0 seat ∙ ap (λ (n : ℕ). some n) (sym opens.1)) some_session))
            ],
          )),
    )
  ]

  -- what is met
  base : (place session number : ℕ) → HasPlace s place → MeetsWaiter (length s.homes) place session number (shift).last → StaysMet s session number (shift).last
  unfolding shift
  base place session number has meets =
      let met = (shifts m st (get_or s.words st.word 0) m′ turn).meets meets.kind in
      let ok = r.places place has.0 has.1 in
      let record_is : held_at place m.0.latches ≡ Some meets.latch = ap (held_at place) (sym met.2) ∙ meets.held in
      let book : meets.latch.book ≡ ok.book = (ok.held id (holder_at place m.0) (at_map (holder_at place) s.views id m.0 seat) meets.latch record_is).book_is in
      let some_ticket = told (ticket_of session number meets.latch.book.waiting) meets.waits in
      let asks = asks_there s r place has.0 has.1 session number some_ticket.0 (ap (λ (b : BookView). ticket_of session number b.waiting) (sym book) ∙ some_ticket.1) in
      let word : (shifts m st (get_or s.words st.word 0) m′ turn).last.found ≡ waits s session = met.1 ∙ ap (λ (i : ℕ). get_or s.words i 0) (sym met.0 ∙ meets.word) in
      let own = r.waits_agree.each asks.0 (waiter_of asks.1) (at_map waiter_of s.views asks.0 asks.1 asks.3) in
      let below = (r.views asks.0 asks.1 asks.3).0.asks asks.2 asks.5 in
      let number_is = asks.7 in
      let same_word : waits s asks.1.number ≡ waits s session = ap (waits s) asks.4 in (
        asks.0,
        asks.1,
        asks.3,
        asks.4,
        omega arith,
        λ a is same. (
          ap (λ (k : ℕ). k / 8) (word ∙ sym same_word) ∙ own.number,
          λ settled now. settled (ap (λ (k : ℕ). k % 8) word ∙ now),
        ),
      )
    where
      told : (o : Option Ticket) → is_some o ≡ true → (t : Ticket) × (o ≡ Some t)
      told None e = absurd (cc)
      told (Some t) e = (t, refl)

  -- the list of the session that makes the step
  pub own_list : ((e : StepRecord) → Contains m.0.log e → (place session number : ℕ) → HasPlace s place → 0 < session → MeetsWaiter (length s.homes) place session number e → StaysMet s session number e)
      → (e : StepRecord) → Contains m′.0.log e → (place session number : ℕ) → HasPlace s place → 0 < session → MeetsWaiter (length s.homes) place session number e → StaysMet t session number e
  unfolding shift
  own_list before e among place session number has some_session meets =
      elim (Contains-append_cases m.0.log ((shifts m st (get_or s.words st.word 0) m′ turn).last ∷ []) e (subst (λ (es : List StepRecord). Contains es e) (shifts m st (get_or s.words st.word 0) m′ turn).log among)) [
        | inl old ↦ carry session number e some_session (before e old place session number has some_session meets)
        | inr new ↦
            let same = none_of_one (shifts m st (get_or s.words st.word 0) m′ turn).last e new in
            carry session number e some_session (subst (λ (x : StepRecord). StaysMet s session number x) same
            (base place session number has (subst (λ (x : StepRecord). MeetsWaiter (length s.homes) place session number x) (sym same) meets)))
      ]

  pub other_lists : (session number : ℕ) (e : StepRecord) → 0 < session → StaysMet s session number e → StaysMet t session number e
  other_lists = carry

-- ---- the law

-- a seat is split off
module _ (s : State Slot View) (v first more : View) (seat : get_elem? s.views 0 ≡ some v) (first_is : first ≡ first_after v) where
  abbrev split : State Slot View
  split = record { words = s.words; homes = s.homes; views = set s.views 0 first ++ more ∷ [] }

  pub split_carry : (session number : ℕ) (e : StepRecord) → StaysMet s session number e → StaysMet split session number e
  split_carry session number e (j, w, at, is, below, facts) = elim (cases_eq j 0) [
    | inl same ↦
        let own : w ≡ v = some-injective w v (sym (subst (λ (k : ℕ). get_elem? s.views k ≡ some w) same at) ∙ seat) in
        let number_is : first.number ≡ w.number = ap (λ (x : View). x.number) first_is ∙ sym (ap (λ (x : View). x.number) own) in
        let next_is : first.next ≡ w.next = ap (λ (x : View). x.next) first_is ∙ sym (ap (λ (x : View). x.next) own) in
        let asks_is : first.asks ≡ w.asks = ap (λ (x : View). x.asks) first_is ∙ sym (ap (λ (x : View). x.asks) own) in
        let waits_is : first.waits ≡ w.waits = ap (λ (x : View). x.waits) first_is ∙ sym (ap (λ (x : View). x.waits) own) in (
          0,
          first,
          at_longer (set s.views 0 first) (more ∷ []) 0 first (set_here s.views 0 first (at_inside s.views 0 v seat)),
          number_is ∙ is,
          omega arith,
          λ a asks number_same.
              (let was = facts a (sym asks_is ∙ asks) number_same in (was.0 ∙ sym waits_is, was.1)),
        )
    | inr else ↦ (j, w, at_longer (set s.views 0 first) (more ∷ []) j w (set_else s.views 0 j first else ∙ at), is, below, facts)
  ]

module _ (s t : State Slot View) (r : Rule s)
    (before : (i : ℕ) (v : View) → get_elem? s.views i ≡ some v → (e : StepRecord) → Contains v.log e → (place session number : ℕ) → HasPlace s place → 0 < session
    → MeetsWaiter (length s.homes) place session number e → StaysMet s session number e)
    (i : ℕ) (v : View) (at : get_elem? t.views i ≡ some v) (e : StepRecord) (among : Contains v.log e) (place session number : ℕ) (has : HasPlace t place) (some_session : 0 < session)
    (meets : MeetsWaiter (length t.homes) place session number e) where
  by_turn : (u : TableChange s t) → IsWholeChange u → StaysMet t session number e
  by_turn (TableChange.Steps id m m′ st left act seat made moves) whole =
      let size : length t.homes ≡ length s.homes = ap (λ (x : State Slot View). length x.homes) moves ∙ homes_length s.homes m.1 act in
      let has_ : HasPlace s place = (has.0, subst (λ (k : ℕ). place < k) size has.1) in
      let meets_ : MeetsWaiter (length s.homes) place session number e = subst (λ (k : ℕ). MeetsWaiter k place session number e) size meets in
      let at_ : get_elem? (set s.views id m′.0) i ≡ some v = subst (λ (x : State Slot View). get_elem? x.views i ≡ some v) moves at in
      subst (λ (x : State Slot View). StaysMet x session number e) (sym moves)
      (elim (at_set s.views id i m′.0 v at_) [
        | inl mine ↦ own_list s r id m m′ st left act seat made whole.0 whole.3 (λ x old p n k has_p some_n met. before id m.0 seat x old p n k has_p some_n met)
            e (subst (λ (x : View). Contains x.log e) (sym mine.1) among) place session number has_ some_session meets_
        | inr other ↦ other_lists s r id m m′ st left act seat made whole.0 whole.3 session number e some_session (before i v other.1 e among place session number has_ some_session meets_)
      ])
  by_turn (TableChange.Splits x first more seat fast slow reads moves) whole =
      let has_ : HasPlace s place = subst (λ (y : State Slot View). HasPlace y place) moves has in
      let meets_ : MeetsWaiter (length s.homes) place session number e = subst (λ (y : State Slot View). MeetsWaiter (length y.homes) place session number e) moves meets in
      let at_ : get_elem? (set s.views 0 first ++ more ∷ []) i ≡ some v = subst (λ (y : State Slot View). get_elem? y.views i ≡ some v) moves at in
      subst (λ (y : State Slot View). StaysMet y session number e) (sym moves)
      (split_carry s x first more seat whole.0 session number e
      (elim (at_snoc (set s.views 0 first) more v i at_) [
        | inl old ↦ elim (at_set s.views 0 i first v old) [
          | inl mine ↦ absurd (Contains-none e (subst (λ (y : View). Contains y.log e) (sym mine.1 ∙ whole.0) among))
          | inr other ↦ before i v other.1 e among place session number has_ some_session meets_
        ]
        | inr new ↦ before 0 x seat e (subst (λ (y : View). Contains y.log e) (sym new ∙ whole.1) among) place session number has_ some_session meets_
      ]))

none_logged : (sessions k : ℕ) (v : View) (e : StepRecord) → get_elem? (blank 0 (numbers_for sessions 0 0) ∷ []) k ≡ some v → Contains v.log e → ⊥
none_logged sessions zero v e there among = Contains-none e (subst (λ (x : View). Contains x.log e) (sym (some-injective (blank 0 (numbers_for sessions 0 0)) v there)) among)
none_logged sessions (suc k) v e there among = some-ne-none v (sym there)

pub met_waits_stay : MetWaitsStay
met_waits_stay s (Reached.Opens sessions words slots open_) = λ i v at e among place session number has some_session meets. absurd (none_logged sessions i v e at among)
met_waits_stay t (Reached.Goes s _ before rule turn whole) = λ i v at e among place session number has some_session meets.
    by_turn s t (rule_of s before) (met_waits_stay s before) i v at e among place session number has some_session meets turn whole

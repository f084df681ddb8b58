-- Who met the words of waits under a latch, and passed all waiting tickets over, knows each of them to be settled or not grantable.
use Rattle.std.proofs.Common.{◌≡◌, ◌≢◌, ◌⊎◌, ℕ, ◌/◌, ◌%◌, ◌<◌, ◌≤◌, true, false, inl, inr, List, ◌∷◌, ◌++◌, length, Some, sym, ap, ◌∙◌, subst, arith, Contains}
use Rattle.atomic_table.specs.Seated.{TableId}
use Rattle.mdl_book.specs.SessionSets.{is_session}
use Rattle.std.proofs.lemmas.Bool.Decides.{nat_tests}
use Rattle.mdl_steps_laws.proofs.FirstLemmas.{Ask, BookView, Contains-append_right, Contains-here, ForgetsNobody, HasPlace, IsSession, IsStepOf, LatchRecord, MeetsWaiter, Mine, Reached, Rule, Slot, State, StepRecord, Ticket, View, WasSettled, asks_there, at_map, can_be_granted, found_in, get_elem?, held_at, holder_at, lock_kind, some, some-injective, ticket_of, waiter_of, waits}
use Rattle.mdl_steps_laws.proofs.MetWaits.{met_waits_stay}
use Rattle.mdl_steps_laws.proofs.Puttings.{AreLookedAt}

-- a step that was made is in the list
among_steps : (start m : Mine) (e : StepRecord) → IsStepOf start m e → Contains m.0.log e
among_steps start m e made =
    subst (λ (es : List StepRecord). Contains es e) (sym made.2) (Contains-append_right (start.0.log ++ made.0) (e ∷ made.1) e (Contains-here e made.1))

module _ (s : State Slot View) (before : Reached s) (r : Rule s) (id : ℕ) (m : Mine) (seat : get_elem? s.views id ≡ some m.0) (place : ℕ) (has : HasPlace s place)
    (table : TableId) (h : LatchRecord) (start : Mine) (forgets : ForgetsNobody table place h start m) (holds : held_at place m.0.latches ≡ Some h)
    (slots : table.slots ≡ length s.homes) (words : length s.words ≤ table.words) where
  module _ (t : Ticket) (among : Contains h.book.waiting t) where
    -- the session of the ticket waits for it
    book : h.book ≡ (r.places place has.0 has.1).book
    book = ((r.places place has.0 has.1).held id (holder_at place m.0) (at_map (holder_at place) s.views id m.0 seat) h holds).book_is

    module _ (j : ℕ) (v : View) (at : get_elem? s.views j ≡ some v) (number_is : v.number ≡ t.session) (some_session : 0 < t.session) where
      -- nobody else has its number
      one_view : (i : ℕ) (w : View) → get_elem? s.views i ≡ some w → w.number ≡ t.session → w ≡ v
      one_view i w there same =
          let here : i ≡ j = r.enrolled.apart i j t.session (at_map (λ (x : View). x.number) s.views i w there ∙ ap (λ (n : ℕ). some n) same)
          (at_map (λ (x : View). x.number) s.views j v at ∙ ap (λ (n : ℕ). some n) number_is) some_session in
          some-injective w v (sym there ∙ ap (get_elem? s.views) here ∙ at)

      -- what was met of its wait
      stays : (e : StepRecord) → IsStepOf start m e → MeetsWaiter table.slots place t.session t.number e → (a : Ask) → v.asks ≡ Some a → a.number ≡ t.number
          → (e.found / 8 ≡ v.waits) × (e.found % 8 ≢ 1 → waits s t.session % 8 ≢ 1)
      stays e made meets a asks same =
          let is = met_waits_stay s before id m.0 seat e (among_steps start m e made) place t.session t.number has some_session
          (subst (λ (k : ℕ). MeetsWaiter k place t.session t.number e) slots meets) in
          let own : is.1 ≡ v = one_view is.0 is.1 is.2 is.3 in
          let facts = is.5 a (ap (λ (x : View). x.asks) own ∙ asks) same in
          (facts.0 ∙ ap (λ (x : View). x.waits) own, facts.1)

      -- so a wait that was met settled is so
      settled_still : WasSettled table.slots place t.session t.number start m → (a : Ask) → v.asks ≡ Some a → a.number ≡ t.number → waits s t.session % 8 ≡ 1 → ⊥
      settled_still settled a asks same unsettled =
          let first = stays settled.read settled.read_then settled.of_wait a asks same in
          let second = stays settled.met settled.met_then settled.of_same a asks same in
          let numbers : settled.met.found / 8 ≡ settled.read.found / 8 = second.0 ∙ sym first.0 in
          second.1 (λ open_. settled.settled (omega arith)) unsettled

    in_range : (n : ℕ) → 0 < n → n ≤ 1024 → is_session n ≡ true
    in_range n positive few = grind (arith, nat_tests)

    looked : (waits s t.session % 8 ≡ 1 → ⊥) ⊎ (can_be_granted (lock_kind h.book) h.book.granted h.book.waiting forgets.read.found t.session t.mode ≡ false)
    looked =
        let found = found_in h.book.waiting t among in
        let asks = asks_there s r place has.0 has.1 t.session t.number found.0 (ap (λ (b : BookView). ticket_of t.session t.number b.waiting) (sym book) ∙ found.1) in
        let own = r.waits_agree.each asks.0 (waiter_of asks.1) (at_map waiter_of s.views asks.0 asks.1 asks.3) in
        let some_session : 0 < t.session = subst (λ (n : ℕ). 0 < n) asks.4 (own.asks asks.2 asks.5).3 in
        let number_is = asks.4 in
        let below = r.enrolled.below asks.0 asks.1.number (at_map (λ (x : View). x.number) s.views asks.0 asks.1 asks.3) in
        let given = r.enrolled.given in
        let last = r.enrolled.last in
        let limit = r.enrolled.limit in
        let wide = r.wide in
        let is : IsSession table t.session = (some_session, omega arith) in
        elim (forgets.passed t among is (in_range t.session some_session (omega arith))) [
          | inl settled ↦ inl (settled_still asks.0 asks.1 asks.3 asks.4 some_session settled asks.2 asks.5 asks.7)
          | inr cannot ↦ inr cannot
        ]

  pub looked_at : AreLookedAt (waits s) forgets.read.found h
  looked_at t among = looked t among

-- The waits of the system that the running table tells.
use Rattle.std.proofs.Common.{◌≡◌, ◌≢◌, ℕ, zero, suc, ◌/◌, ◌%◌, ◌<◌, ◌≤◌, ◌==◌, true, not, cond, inl, inr, List, [], ◌∷◌, length, map, Some, None, refl, sym, ap, ◌∙◌, subst, arith, Contains, Option, slice_index_or, eq-eqb, eqb-true}
use Rattle.std.proofs.lemmas.List.Sums.{AllPass-from_list_all}
use Rattle.mdl_steps_laws.proofs.Common.{AreLocksOf, Ask, Contains-cons_cases, Contains-flat_map, Contains-flat_map_from, Contains-here, Contains-map_from, Contains-none, GrantedWait, KeyName, Killed, Lock, Rule, RunningTablesTellWaits, Slot, State, Tells, Ticket, TimedOut, Unsettled, Victim, View, WaitState, Waiter, and_from, asks_there, at_inside, at_map, blank, by_bool, code_of, flat_map, get_elem?, is_itself, is_ticket, list_all, nat_told, no_numbers, option_map, option_to_list, other, some, some-injective, some-ne-none, ticket_of, wait_in, waiter_of, waits}
use Rattle.mdl_steps_laws.proofs.TableLocks.{find_key, into_rule, is_placed, first_place, last_place, placed, running_tables_tell_a_system}

-- ---- states

abbrev pub state_by : ℕ → WaitState
state_by n = cond (n == 3) Victim (cond (n == 4) TimedOut (cond (n == 5) Killed Unsettled))

pub code_by : (n : ℕ) → n ≤ 5 → n ≢ 0 → n ≢ 2 → code_of (state_by n) ≡ n
code_by n most idle granted =
    elim (nat_told n 3) [
      | inl three ↦ rw (eq-eqb n 3 three) (sym three)
      | inr not_three ↦ elim (nat_told n 4) [
        | inl four ↦ rw (other n 3 not_three, eq-eqb n 4 four) (sym four)
        | inr not_four ↦ elim (nat_told n 5) [
          | inl five ↦ rw (other n 3 not_three, other n 4 not_four, eq-eqb n 5 five) (sym five)
          | inr not_five ↦ rw (other n 3 not_three, other n 4 not_four, other n 5 not_five) (omega arith)
        ]
      ]
    ]

-- ---- a ticket of a list is found in it

none_passes : (a m : ℕ) (ts : List Ticket) → ticket_of a m ts ≡ None → list_all (λ u. not (is_ticket a m u)) ts ≡ true
none_passes a m [] none = refl
none_passes a m (t ∷ ts) none = by_bool (is_ticket a m t)
    (λ hit. let gone : Some t ≡ None = sym (ap (λ b. cond b (Some t) (ticket_of a m ts)) hit) ∙ none in absurd (cc))
    (λ miss. and_from (not (is_ticket a m t)) (list_all (λ u. not (is_ticket a m u)) ts) (ap not miss)
    (none_passes a m ts (sym (ap (λ b. cond b (Some t) (ticket_of a m ts)) miss) ∙ none)))

pub found_in : (ts : List Ticket) (t : Ticket) → Contains ts t → (u : Ticket) × (ticket_of t.session t.number ts ≡ Some u)
found_in ts t among = by_look (ticket_of t.session t.number ts) refl
  where
    by_look : (o : Option Ticket) → ticket_of t.session t.number ts ≡ o → (u : Ticket) × (ticket_of t.session t.number ts ≡ Some u)
    by_look (Some u) e = (u, e)
    by_look None e =
        let fails : not (is_ticket t.session t.number t) ≡ true = subst (λ (u : Ticket). not (is_ticket t.session t.number u) ≡ true) among.2
        (AllPass-from_list_all (λ u. not (is_ticket t.session t.number u)) ts (none_passes t.session t.number ts e) among.0 t among.1) in
        let hit = is_itself t in
        absurd (cc)

-- ---- the waits of a system

abbrev pub waiter_by : (ℕ → ℕ) → Ticket → Waiter
waiter_by f t = record { ticket = t; wait = f t.session / 8; state = state_by (f t.session % 8) }

told_tickets : (f : ℕ → ℕ) (ts : List Ticket) → map (λ (waiter : Waiter). waiter.ticket) (map (waiter_by f) ts) ≡ ts
told_tickets f [] = refl
told_tickets f (t ∷ ts) = ap (λ xs. t ∷ xs) (told_tickets f ts)

abbrev granted_by : ℕ → ℕ → Option Ask → List GrantedWait
granted_by session word asks = cond (word % 8 == 2) (option_to_list (option_map (λ (a : Ask). record { session = session; wait = word / 8; ticket = a.number }) asks)) []

abbrev granted_of : (ℕ → ℕ) → View → List GrantedWait
granted_of f v = granted_by v.number (f v.number) v.asks

from_granted : (session word : ℕ) (asks : Option Ask) (wait : GrantedWait) → Contains (granted_by session word asks) wait
    → (a : Ask) × (asks ≡ Some a) × (session ≡ wait.session) × (a.number ≡ wait.ticket) × (word ≡ wait_in wait.wait 2)
from_granted session word asks wait among = by_bool (word % 8 == 2)
    (λ two. by_asks asks (eqb-true (word % 8) 2 two) (subst (λ b. Contains (cond {A = List GrantedWait} b (option_to_list (option_map (λ (a : Ask). record { session = session; wait = word / 8; ticket = a.number }) asks)) []) wait) two among))
    (λ away. absurd (Contains-none wait (subst (λ b. Contains (cond {A = List GrantedWait} b (option_to_list (option_map (λ (a : Ask). record { session = session; wait = word / 8; ticket = a.number }) asks)) []) wait) away among)))
  where
    by_asks : (o : Option Ask) → word % 8 ≡ 2 → Contains (option_to_list (option_map (λ (a : Ask). record { session = session; wait = word / 8; ticket = a.number }) o)) wait
        → (a : Ask) × (o ≡ Some a) × (session ≡ wait.session) × (a.number ≡ wait.ticket) × (word ≡ wait_in wait.wait 2)
    by_asks None two there = absurd (Contains-none wait there)
    by_asks (Some a) two there = elim (Contains-cons_cases (record { session = session; wait = word / 8; ticket = a.number }) [] wait there) [
      | inl later ↦ absurd (Contains-none wait later)
      | inr here ↦ (
        a,
        refl,
        ap (λ (g : GrantedWait). g.session) (sym here),
        ap (λ (g : GrantedWait). g.ticket) (sym here),
        (let wait_is = ap (λ (g : GrantedWait). g.wait) here in omega arith),
      )
    ]

into_granted : (session word : ℕ) (asks : Option Ask) (a : Ask) (wait : ℕ) → asks ≡ Some a → word ≡ wait_in wait 2 → Contains (granted_by session word asks) (record { session = session; wait = wait; ticket = a.number })
into_granted session word asks a wait e is =
    let two : word % 8 ≡ 2 = omega arith in
    let number : word / 8 ≡ wait = omega arith in
    subst (λ (n : ℕ). Contains (granted_by session word asks) (record { session = session; wait = n; ticket = a.number })) number
    (subst (λ (o : Option Ask). Contains (granted_by session word o) (record { session = session; wait = word / 8; ticket = a.number })) (sym e)
    (rw (eq-eqb (word % 8) 2 two) (Contains-here (record { session = session; wait = word / 8; ticket = a.number }) [])))

-- ---- views in a list

index_from_at : (vs : List View) (i : ℕ) (v d : View) → get_elem? vs i ≡ some v → slice_index_or vs i d ≡ v
index_from_at [] i v d e = absurd (some-ne-none v (sym e))
index_from_at (w ∷ ws) zero v d e = some-injective w v e
index_from_at (w ∷ ws) (suc i) v d e = index_from_at ws i v d e

at_from_index : (vs : List View) (i : ℕ) (d : View) → i < length vs → get_elem? vs i ≡ some (slice_index_or vs i d)
at_from_index [] i d inside = absurd (omega arith)
at_from_index (w ∷ ws) zero d inside = refl
at_from_index (w ∷ ws) (suc i) d inside = at_from_index ws i d (omega arith)

-- ---- the law

module _ (s : State Slot View) (r : Rule s) (locks : KeyName → Lock) (are : AreLocksOf s locks) where
  waiter_told : (key : KeyName) (t : Ticket) → Contains (locks key).book.waiting t → waits s t.session ≡ wait_in (waits s t.session / 8) (code_of (state_by (waits s t.session % 8)))
  waiter_told key t among = elim (find_key are.keys key) [
    | inl at ↦
        let here = into_rule s r locks are at.0 key at.1 in
        let there : Contains (placed s r at.0 key here).book.waiting t = subst (λ (l : Lock). Contains l.book.waiting t) (sym (is_placed s r locks are at.0 key at.1)) among in
        let u = found_in (placed s r at.0 key here).book.waiting t there in
        let asks = asks_there s r (suc at.0) (first_place s r at.0 key here) (last_place s r at.0 key here) t.session t.number u.0 u.1 in
        let own = r.waits_agree.each asks.0 (waiter_of asks.1) (at_map waiter_of s.views asks.0 asks.1 asks.3) in
        let number_is = asks.4 in
        let word : waits s asks.1.number ≡ waits s t.session = ap (waits s) number_is in
        let some_state = (own.asks asks.2 asks.5).0 in
        let most = own.state in
        let granted = asks.8 in
        let code = code_by (waits s t.session % 8) (omega arith) (λ idle. some_state (omega arith)) granted in
        omega arith
    | inr none ↦ absurd (Contains-none t (subst (λ (l : Lock). Contains l.book.waiting t) (are.without_place key none) among))
  ]

pub running_tables_tell_waits : RunningTablesTellWaits
running_tables_tell_waits s r =
    let base = running_tables_tell_a_system s r in
    let locks : KeyName → Lock = base.0 in
    let are : AreLocksOf s locks = base.1 in
    let tells : Tells locks base.2 = base.3 in
    let d : View = blank 0 no_numbers in (
      base.0,
      base.1,
      record base.2 { waiting = λ key. map (waiter_by (waits s)) (base.0 key).book.waiting; unended = flat_map (granted_of (waits s)) s.views },
      record {
        keyed = tells.keyed;
        granted = tells.granted;
        waiting = λ key. told_tickets (waits s) (base.0 key).book.waiting;
        definitions = tells.definitions;
      },
      record {
        waiting = λ key w among.
            let from = Contains-map_from (waiter_by (waits s)) (base.0 key).book.waiting w among in
            subst (λ (x : Waiter). waits s x.ticket.session ≡ wait_in x.wait (code_of x.state)) (sym from.2) (waiter_told s r base.0 base.1 key from.0 from.1);
        unended = λ wait. (
          (λ among.
              let from = Contains-flat_map_from (granted_of (waits s)) s.views (blank 0 no_numbers) wait among in
              let v : View = slice_index_or s.views from.0 (blank 0 no_numbers) in
              let of = from_granted v.number (waits s v.number) v.asks wait from.2 in
              (from.0, slice_index_or s.views from.0 (blank 0 no_numbers), of.0, at_from_index s.views from.0 (blank 0 no_numbers) from.1, of.2, of.1, of.3, ap (waits s) (sym of.2) ∙ of.4)),
          λ granted.
              let v = granted.1 in
              let word : waits s v.number ≡ wait_in wait.wait 2 = ap (waits s) granted.4 ∙ granted.7 in
              Contains-flat_map (granted_of (waits s)) s.views granted.0 (blank 0 no_numbers) wait (at_inside s.views granted.0 granted.1 granted.3)
              (subst (λ (x : View). Contains (granted_of (waits s) x) wait) (sym (index_from_at s.views granted.0 granted.1 (blank 0 no_numbers) granted.3))
              (subst (λ (g : GrantedWait). Contains (granted_of (waits s) granted.1) g) (λ i. record { session = granted.4 i; wait = wait.wait; ticket = granted.6 i })
              (into_granted granted.1.number (waits s granted.1.number) granted.1.asks granted.2 wait.wait granted.5 word))),
        );
      },
    )

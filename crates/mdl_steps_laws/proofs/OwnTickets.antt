-- What a session has by its view: the slow tickets that it holds, and that its next number is new.
use Rattle.std.proofs.Common.{◌≡◌, ◌≢◌, ℕ, zero, suc, ◌<◌, ◌==◌, Bool, true, cond, inl, inr, List, [], ◌∷◌, map, Some, None, refl, sym, ap, ◌∙◌, subst, arith, Contains, eq-eqb, eqb-true}
use Rattle.mdl_steps_laws.proofs.Common.{Contains-append_cases, Contains-append_right, Contains-cons_cases, Contains-here, Contains-later, Contains-map, Contains-map_from, Contains-none, Each, IsOnly, IsUnlike, KeyName, Lock, NextNumbersAreNew, Once, OwnTicketsAreHeld, Part, Rule, SessionTicket, Slot, State, Ticket, View, all_fast, at_map, at_unmap, by_bool, cell, due, due_asked, fast_at, find-contains, get_elem?, granted_of, in_book, is_itself, is_passed, is_ticket, of-unwaited, of_lock, of_other_number, own_at, part_at, some, some-injective, ticket_by, ticket_of, waits}
use Rattle.mdl_steps_laws.proofs.Keeping.{filter_among, filter_passes}
use Rattle.mdl_steps_laws.proofs.TableLocks.{find_key, into_rule, is_placed, placed}
use Rattle.mdl_steps_laws.proofs.TicketMembers.{found-passes, none-passes}

-- ---- lists

pub each_in : {A : Type 0} → (P : A → Type 0) (xs : List A) → Each P xs → (x : A) → Contains xs x → P x
each_in P [] all x among = absurd (Contains-none x among)
each_in P (y ∷ ys) all x among = elim (Contains-cons_cases y ys x among) [ inl later ↦ each_in P ys all.1 x later | inr here ↦ subst P (sym here) all.0 ]

pub own_among : (place : ℕ) (ts : List SessionTicket) (o : SessionTicket) → Contains (own_at place ts) o → Contains ts o
own_among place [] o among = among
own_among place (t ∷ ts) o among =
    let picked : Bool → List SessionTicket = λ b. cond {A = List SessionTicket} b (t ∷ own_at place ts) (own_at place ts) in
    by_bool (t.place == place)
    (λ here. elim (Contains-cons_cases t (own_at place ts) o (subst (λ (b : Bool). Contains (picked b) o) here among)) [
      | inl later ↦ Contains-later t ts o (own_among place ts o later)
      | inr e ↦ subst (Contains (t ∷ ts)) (sym e) (Contains-here t ts)
    ])
    (λ away. Contains-later t ts o (own_among place ts o (subst (λ (b : Bool). Contains (picked b) o) away among)))

each_fast : (P : Ticket → Type 0) (parts : List Part) → ((m : ℕ) (x : Part) → get_elem? parts m ≡ some x → (o : SessionTicket) → Contains x.fast o → P (ticket_by x.number o))
    → (t : Ticket) → Contains (all_fast parts) t → P t
each_fast P [] all t among = absurd (Contains-none t among)
each_fast P (x ∷ xs) all t among = elim (Contains-append_cases (map (ticket_by x.number) x.fast) (all_fast xs) t among) [
  | inl mine ↦ let from = Contains-map_from (ticket_by x.number) x.fast t mine in subst P (sym from.2) (all zero x refl from.0 from.1)
  | inr others ↦ each_fast P xs (λ m y. all (suc m) y) t others
]

-- none of these tickets has the next number
fresh : (session next : ℕ) (ts : List SessionTicket) → ((o : SessionTicket) → Contains ts o → o.number < next) → ticket_of session next (map (ticket_by session) ts) ≡ None
fresh session next [] all = refl
fresh session next (t ∷ ts) all =
    rw (of_other_number session next (ticket_by session t) (let below = all t (Contains-here t ts) in λ e. omega arith))
    (fresh session next ts (λ o among. all o (Contains-later t ts o among)))

-- where no ticket passes none is found
none_found : (session number : ℕ) (ts : List Ticket) → ((t : Ticket) → Contains ts t → is_ticket session number t ≡ true → ⊥) → ticket_of session number ts ≡ None
none_found session number [] none = refl
none_found session number (t ∷ ts) none = by_bool (is_ticket session number t)
    (λ hit. absurd (none t (Contains-here t ts) hit))
    (λ past. rw past (none_found session number ts (λ u among. none u (Contains-later t ts u among))))

-- ---- a session's own

module _ (s : State Slot View) (r : Rule s) (j : ℕ) (v : View) (seat : get_elem? s.views j ≡ some v) where
  -- a fast ticket and a slow one of a place have different numbers
  unlike_there : (place : ℕ) (fast slow : SessionTicket) → Contains (own_at place v.fast) fast → Contains (own_at place v.slow) slow → slow.number ≢ fast.number
  unlike_there place fast slow in_fast in_slow =
      let place_of : (ts : List SessionTicket) (o : SessionTicket) → Contains (own_at place ts) o → o.place ≡ place = λ ts o within. eqb-true o.place place (filter_passes (λ (x : SessionTicket). x.place == place) ts o within) in
      let unlike = each_in (λ (x : SessionTicket). Each (IsUnlike x) v.slow) v.fast (r.views j v seat).0.unmixed fast (own_among place v.fast fast in_fast) in
      each_in (IsUnlike fast) v.slow unlike slow (own_among place v.slow slow in_slow) (place_of v.slow slow in_slow ∙ sym (place_of v.fast fast in_fast))

  -- so no fast ticket there has the number of a slow one
  pub none_fast : (place number : ℕ) (t : Ticket) → ticket_of v.number number (map (ticket_by v.number) (own_at place v.slow)) ≡ Some t
      → ticket_of v.number number (map (ticket_by v.number) (own_at place v.fast)) ≡ None
  none_fast place number t found = none_found v.number number (map (ticket_by v.number) (own_at place v.fast)) (λ u among is.
      let listed = map (ticket_by v.number) (own_at place v.slow) in
      let slow = Contains-map_from (ticket_by v.number) (own_at place v.slow) t (find-contains (is_ticket v.number number) listed t found) in
      let fast = Contains-map_from (ticket_by v.number) (own_at place v.fast) u among in
      let one : t.number ≡ number = (is_passed v.number number t (found-passes v.number number listed t found)).1 in
      let other : u.number ≡ number = (is_passed v.number number u is).1 in
      unlike_there place fast.0 slow.0 fast.1 slow.1 (ap (λ (x : Ticket). x.number) (sym slow.2) ∙ one ∙ sym other ∙ ap (λ (x : Ticket). x.number) fast.2))

  -- and no slow one has that of a fast one
  pub none_slow : (place : ℕ) (o : SessionTicket) → Contains v.fast o → o.place ≡ place → ticket_of v.number o.number (map (ticket_by v.number) (own_at place v.slow)) ≡ None
  none_slow place o among here = none_found v.number o.number (map (ticket_by v.number) (own_at place v.slow)) (λ u listed is.
      let slow = Contains-map_from (ticket_by v.number) (own_at place v.slow) u listed in
      let fast = filter_among (λ (x : SessionTicket). x.place == place) v.fast o among (eq-eqb o.place place here) in
      unlike_there place o slow.0 fast slow.1 (ap (λ (x : Ticket). x.number) (sym slow.2) ∙ (is_passed v.number o.number u is).1))

  module _ (some_number : 0 < v.number) where
    -- no other seat has its number
    its_own : (m : ℕ) (w : View) → get_elem? s.views m ≡ some w → w.number ≡ v.number → w ≡ v
    its_own m w there same =
        let one = at_map (λ (x : View). x.number) s.views m w there ∙ ap (λ (n : ℕ). some n) same in
        let other = at_map (λ (x : View). x.number) s.views j v seat in
        some-injective w v (sym there ∙ ap (get_elem? s.views) (r.enrolled.apart m j v.number one other some_number) ∙ seat)

    fast_numbers : (place : ℕ) (t : Ticket) → Contains (fast_at s place) t → t.session ≡ v.number → t.number ≢ v.next
    fast_numbers place = each_fast (λ t. t.session ≡ v.number → t.number ≢ v.next) (cell s place).parts (λ m x there o among session e.
        let u = at_unmap (part_at (waits s) place) s.views m x there in
        let mine : u.0 ≡ v = its_own m u.0 u.1 (ap (λ (p : Part). p.number) u.2 ∙ session) in
        let has : Contains (own_at place v.fast) o = subst (λ (w : View). Contains (own_at place w.fast) o) mine (subst (λ (p : Part). Contains p.fast o) (sym u.2) among) in
        let below = each_in (λ (t : SessionTicket). t.number < v.next) v.fast (r.views j v seat).0.fast o (own_among place v.fast o has) in
        omega arith)

    -- a fast ticket of the session is one of its view
    fast_none : (place number : ℕ) → ticket_of v.number number (map (ticket_by v.number) (own_at place v.fast)) ≡ None → ticket_of v.number number (fast_at s place) ≡ None
    fast_none place number none = none_found v.number number (fast_at s place)
        (each_fast (λ t. is_ticket v.number number t ≡ true → ⊥) (cell s place).parts (λ m x there o among is.
        let u = at_unmap (part_at (waits s) place) s.views m x there in
        let mine : u.0 ≡ v = its_own m u.0 u.1 (ap (λ (p : Part). p.number) u.2 ∙ (is_passed v.number number (ticket_by x.number o) is).0) in
        let has : Contains (own_at place v.fast) o = subst (λ (w : View). Contains (own_at place w.fast) o) mine (subst (λ (p : Part). Contains p.fast o) (sym u.2) among) in
        none-passes v.number number (map (ticket_by v.number) (own_at place v.fast)) none (ticket_by v.number o)
        (Contains-map (ticket_by v.number) (own_at place v.fast) o has)
        (subst (λ (n : ℕ). is_ticket v.number number (ticket_by n o) ≡ true) (is_passed v.number number (ticket_by x.number o) is).0 is)))

  module _ (i : ℕ) (key : KeyName) (at : get_elem? r.keys i ≡ some key) where
    -- the book has of the session what its view has, but for what it waits for
    pub of_view : (number : ℕ) → ((t : Ticket) → due (part_at (waits s) (suc i) v).asks ≡ Some t → t.number ≢ number)
        → ticket_of v.number number (placed s r i key at).book.granted ≡ ticket_of v.number number (map (ticket_by v.number) (own_at (suc i) v.slow))
    of_view number unwaited =
        ((placed s r i key at).book_ok.each j (part_at (waits s) (suc i) v) (at_map (part_at (waits s) (suc i)) s.views j v seat)).slow_held.same number
        ∙ of-unwaited v.number number (due (part_at (waits s) (suc i) v).asks) (map (ticket_by v.number) (own_at (suc i) v.slow)) unwaited

    slow_numbers : (t : Ticket) → Contains (placed s r i key at).book.granted t → t.session ≡ v.number → t.number ≢ v.next
    slow_numbers t among session number =
        let numbered = (r.views j v seat).0 in
        let none = of_view v.next (λ u is same.
        let a = due_asked (suc i) v.number (waits s v.number) v.asks u is in let below = numbered.asks a.0 a.1 in let e = a.2 in omega arith)
        ∙ fresh v.number v.next (own_at (suc i) v.slow) (λ o has. each_in (λ (x : SessionTicket). x.number < v.next) v.slow numbered.slow o (own_among (suc i) v.slow o has)) in
        none-passes v.number v.next (placed s r i key at).book.granted none t among
        (subst (λ (n : ℕ). is_ticket n v.next t ≡ true) session (subst (λ (n : ℕ). is_ticket t.session n t ≡ true) number (is_itself t)))

pub next_numbers_are_new : NextNumbersAreNew
next_numbers_are_new s r locks are system tells j v seat some_number held among session =
    let here = (tells.granted held).0 among in
    elim (find_key are.keys held.key) [
      | inl at ↦
          let ruled = into_rule s r locks are at.0 held.key at.1 in
          let ok = placed s r at.0 held.key ruled in
          let there = subst (λ (l : Lock). Contains (granted_of l) (in_book held)) (sym (is_placed s r locks are at.0 held.key at.1)) here in
          elim (Contains-append_cases (fast_at s (suc at.0)) ok.book.granted (in_book held) there) [
            | inl fast ↦ fast_numbers s r j v seat some_number (suc at.0) (in_book held) fast session
            | inr slow ↦ slow_numbers s r j v seat at.0 held.key ruled (in_book held) slow session
          ]
      | inr none ↦ absurd (Contains-none (in_book held) (subst (λ (l : Lock). Contains (granted_of l) (in_book held)) (are.without_place held.key none) here))
    ]

pub own_tickets_are_held : OwnTicketsAreHeld
own_tickets_are_held s r locks are system tells i key at j v seat some_number number t found unwaited of_no_wait =
    let here = into_rule s r locks are i key at in
    let by_rule = of_view s r j v seat i key here number (λ u is same.
    let a = due_asked (suc i) v.number (waits s v.number) v.asks u is in unwaited a.0 a.1 (sym a.2 ∙ same)) ∙ found in
    let in_lock : ticket_of v.number number (locks key).book.granted ≡ Some t =
    subst (λ (l : Lock). ticket_of v.number number l.book.granted ≡ Some t) (is_placed s r locks are i key at) by_rule in
    let is = is_passed v.number number t (found-passes v.number number (locks key).book.granted t in_lock) in
    let among = find-contains (is_ticket v.number number) (locks key).book.granted t in_lock in
    let only : IsOnly v.number number (locks key) t = record {
      found = in_lock;
      once = subst (λ (l : Lock). Once l.book.granted) (is_placed s r locks are i key at) (placed s r i key here).book_ok.once;
      not_fast = subst (λ (l : Lock). ticket_of v.number number l.fast ≡ None) (is_placed s r locks are i key at) (fast_none s r j v seat some_number (suc i) number (none_fast s r j v seat (suc i) number t found));
    } in (
      only,
      (
        (tells.granted (of_lock key t)).1 (Contains-append_right (locks key).fast (locks key).book.granted t among),
        is.0,
        λ wait stands session e. of_no_wait wait stands session (e ∙ is.1),
      ),
    )

-- The ticket that a book finds next may be granted.
use Rattle.std.proofs.Common.{◌≡◌, ℕ, suc, ◌||◌, true, not, inl, inr, List, [], ◌∷◌, Some, None, refl, sym, ap, ◌∙◌, subst, Contains}
use Rattle.std.specs.FinSet as set
use Rattle.mdl_steps_laws.proofs.FirstLemmas.{Contains-cons_cases, Contains-none, Kind, MayJoin, NextMayBeGranted, Once, Ticket, and_parts, any_obtrusive, at_map, blocks_by, by_bool, can_be_granted, cell, counts_of, find-contains, find-passes, first_place, goes_first, has_obtrusive, holder_at, in_rule, inside, is_compatible, is_itself, is_obtrusive, is_passed, is_ready, is_ticket, key_at, lock_kind, may_stand, none-passes, or_right, ticket_of, under}

-- an obtrusive member of a list is one of its obtrusive tickets
any_among : (kind : Kind) (ts : List Ticket) (t : Ticket) → Contains ts t → is_obtrusive kind t.mode ≡ true → any_obtrusive kind ts ≡ true
any_among kind [] t among is = absurd (Contains-none t among)
any_among kind (x ∷ xs) t among is = elim (Contains-cons_cases x xs t among) [
  | inl later ↦ ap (λ b. is_obtrusive kind x.mode || b) (any_among kind xs t later is) ∙ or_right (is_obtrusive kind x.mode) true refl
  | inr here ↦ ap (λ b. b || any_obtrusive kind xs) (ap (λ (u : Ticket). is_obtrusive kind u.mode) (sym here) ∙ is)
]

-- a member is found by its session and number
once_found : (ts : List Ticket) → Once ts → (t : Ticket) → Contains ts t → ticket_of t.session t.number ts ≡ Some t
once_found [] once t among = absurd (Contains-none t among)
once_found (x ∷ xs) once t among = elim (Contains-cons_cases x xs t among) [
  | inl later ↦ by_bool (is_ticket t.session t.number x)
      (λ hit.
      let is = is_passed t.session t.number x hit in
      let none : ticket_of t.session t.number xs ≡ None = subst (λ (m : ℕ). ticket_of t.session m xs ≡ None) is.1 (subst (λ (n : ℕ). ticket_of n x.number xs ≡ None) is.0 once.0) in
      absurd (none-passes t.session t.number xs none t later (is_itself t)))
      (λ miss. rw miss (once_found xs once.1 t later))
  | inr here ↦ subst (λ (u : Ticket). ticket_of u.session u.number (x ∷ xs) ≡ Some u) (sym here) (rw (is_itself x) refl)
]

pub next_may_be_granted : NextMayBeGranted
next_may_be_granted s r keys keys_are i key at id me seat h holds word noted unsettled t next =
    let here = in_rule s r keys keys_are i key at in
    let first = first_place s r i key here in
    let last = inside s r keys keys_are i key at in
    let u = under (key_at r.keys (suc i)) (cell s (suc i)) (r.places (suc i) first last) id (holder_at (suc i) me.0) (at_map (holder_at (suc i)) s.views id me.0 seat) h holds in
    let kind : Kind = lock_kind h.book in
    let ready = find-passes (is_ready word unsettled h.book) h.book.waiting t next in
    let among = find-contains (is_ready word unsettled h.book) h.book.waiting t next in
    let parts = and_parts (set.contains unsettled t.session) (can_be_granted (lock_kind h.book) h.book.granted h.book.waiting word t.session t.mode) ready in
    let both = and_parts (may_stand (lock_kind h.book) h.book.granted word t.session t.mode) (goes_first (lock_kind h.book) h.book.waiting t.session t.mode) parts.1 in
    let beside = and_parts (is_compatible (lock_kind h.book) h.book.granted t.session t.mode) (not (blocks_by (counts_of word) (lock_kind h.book) t.mode)) both.0 in
    let joins : MayJoin t.session h.book h.noted t.mode =
    by_bool h.obtrusive
    (λ up. inr (inl (word, noted up, both.0)))
    (λ down. inl (
      by_bool (is_obtrusive (lock_kind h.book) t.mode)
          (λ is.
          let any : has_obtrusive h.book ≡ true = ap (λ b. any_obtrusive (lock_kind h.book) h.book.granted || b) (any_among (lock_kind h.book) h.book.waiting t among is)
          ∙ or_right (any_obtrusive (lock_kind h.book) h.book.granted) true refl in
          let up = u.flagged.1 any in
          absurd (cc))
          (λ not_. not_),
      beside.0,
    )) in (
      record { recorded = holds; wish = t; waits = once_found h.book.waiting u.book_ok.waiting.once t among; may = joins; first = both.1 },
      refl,
    )

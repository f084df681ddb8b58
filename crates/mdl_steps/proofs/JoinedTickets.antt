-- A session's slow tickets with its fast ones of a place among them: what is found there by number, and what is there of other places.
use Rattle.std.proofs.Common.{◌≡◌, ◌≢◌, ◌⊎◌, inl, inr, ℕ, ◌==◌, true, false, List, [], ◌∷◌, ◌++◌, map, Some, None, refl, sym, ap, ◌∙◌, subst, Option, eq-eqb, eqb-true}
use Rattle.mdl_steps.proofs.FirstLemmas.{AtMostOne, Each, Once, SessionTicket, and_false, and_parts, by_bool, filter-interleaved_dropped, find, find-interleaved, interleaved, is_own, option_map, other, own_at, shown, ticket_by, ticket_of}

-- ---- tickets of one place

-- those of the place that are of the place are all of these
own_again : (place : ℕ) (ts : List SessionTicket) → own_at place (own_at place ts) ≡ own_at place ts
own_again place [] = refl
own_again place (t ∷ ts) = by_bool (t.place == place)
    (λ here. rw (here, here) (ap (λ xs. t ∷ xs) (own_again place ts)))
    (λ away. rw away (own_again place ts))

-- what a book would have of both
both_shown : (session place : ℕ) (slow fast : List SessionTicket) → shown session place (slow ++ own_at place fast) ≡ shown session place slow ++ map (ticket_by session) (own_at place fast)
both_shown session place [] fast = ap (map (ticket_by session)) (own_again place fast)
both_shown session place (t ∷ ts) fast = by_bool (t.place == place)
    (λ here. rw here (ap (λ xs. ticket_by session t ∷ xs) (both_shown session place ts fast)))
    (λ away. rw away (both_shown session place ts fast))

-- none of them is elsewhere
none_away : (place q : ℕ) → q ≢ place → (ts : List SessionTicket) → Each (λ (t : SessionTicket). (t.place == q) ≡ false) (own_at place ts)
none_away place q else [] = tt
none_away place q else (t ∷ ts) = by_bool (t.place == place)
    (λ here. rw here (other t.place q (λ e. else (sym e ∙ eqb-true _ _ here)), none_away place q else ts))
    (λ away. rw away (none_away place q else ts))

-- so elsewhere the slow ones are as they were
pub joined_elsewhere : (place : ℕ) (slow fast : List SessionTicket) (q : ℕ) → q ≢ place → own_at q (interleaved slow (own_at place fast)) ≡ own_at q slow
joined_elsewhere place slow fast q else = filter-interleaved_dropped (λ t. t.place == q) slow (own_at place fast) (none_away place q else fast)

-- ---- look-ups by number

module _ (session place m : ℕ) where
  -- a look-up in what a book would have of tickets is one among the tickets
  of_shown : (ts : List SessionTicket) → ticket_of session m (shown session place ts) ≡ option_map (ticket_by session) (find (is_own place m) ts)
  of_shown [] = refl
  of_shown (t ∷ ts) = by_bool (t.place == place)
      (λ here. by_bool (t.number == m)
      (λ same. rw (here, same, eq-eqb session session refl) refl)
      (λ differs. rw (here, differs, eq-eqb session session refl) (of_shown ts)))
      (λ away. rw away (of_shown ts))

  none_of : (o : Option SessionTicket) → option_map (ticket_by session) o ≡ None → o ≡ None
  none_of None none = refl
  none_of (Some t) none = absurd (cc)

  number_of : (t : SessionTicket) → is_own place m t ≡ true → t.number ≡ m
  number_of t is = eqb-true t.number m (and_parts (t.place == place) (t.number == m) is).1

  -- where a number isn't found whatever the place, it isn't at the place
  none_there : (ts : List SessionTicket) → ticket_of session m (map (ticket_by session) ts) ≡ None → find (is_own place m) ts ≡ None
  none_there [] none = refl
  none_there (t ∷ ts) none = by_bool (t.number == m)
      (λ same. let hit = rw (eq-eqb session session refl, same) at none in absurd (cc))
      (λ differs. rw (differs, and_false (t.place == place)) (none_there ts (rw (eq-eqb session session refl, differs) at none)))

  at_most_one : (ts : List SessionTicket) → Once (map (ticket_by session) ts) → AtMostOne (is_own place m) ts
  at_most_one [] once = tt
  at_most_one (t ∷ ts) once = (
    λ is. none_there ts (subst (λ (n : ℕ). ticket_of session n (map (ticket_by session) ts) ≡ None) (number_of t is) once.0),
    at_most_one ts once.1,
  )

  -- a number is of a slow ticket of the place, or of a fast one, but not of both
  one_side : (slow : List SessionTicket) (ts : List SessionTicket) → Each (λ (t : SessionTicket). ticket_of session t.number (shown session place slow) ≡ None) ts
      → (find (is_own place m) slow ≡ None) ⊎ (find (is_own place m) ts ≡ None)
  one_side slow [] apart = inr refl
  one_side slow (t ∷ ts) apart = by_bool (is_own place m t)
      (λ is.
      let none = subst (λ (n : ℕ). ticket_of session n (shown session place slow) ≡ None) (number_of t is) apart.0 in
      inl (none_of (find (is_own place m) slow) (sym (of_shown slow) ∙ none)))
      (λ isnt. elim (one_side slow ts apart.1) [
        | inl none ↦ inl none
        | inr none ↦ inr (rw isnt none)
      ])

  -- so it is looked for among the slow ones, and then among the fast ones
  pub joined_found : (slow fast : List SessionTicket) → Once (map (ticket_by session) (own_at place fast))
      → Each (λ (t : SessionTicket). ticket_of session t.number (shown session place slow) ≡ None) (own_at place fast)
      → ticket_of session m (shown session place (interleaved slow (own_at place fast))) ≡ ticket_of session m (shown session place slow ++ map (ticket_by session) (own_at place fast))
  joined_found slow fast once apart =
      of_shown (interleaved slow (own_at place fast))
      ∙ ap (option_map (ticket_by session)) (find-interleaved (is_own place m) slow (own_at place fast) (at_most_one (own_at place fast) once) (one_side slow (own_at place fast) apart))
      ∙ sym (of_shown (slow ++ own_at place fast))
      ∙ ap (ticket_of session m) (both_shown session place slow fast)

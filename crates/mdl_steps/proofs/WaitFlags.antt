-- What a waiting ticket adds to a book's lists: the flags that told of it go on to tell of all that is left.
use Rattle.std.proofs.Common.{◌≡◌, ℕ, ◌+◌, ◌<◌, ◌≤◌, ◌||◌, Bool, true, false, List, [], ◌∷◌, ◌++◌, length, cond, Some, refl, sym, ap, ◌∙◌, subst, inl, inr, ◌⊎◌, arith, Option, ltb-true, lt-ltb}
use Rattle.mdl_steps.proofs.Common.{BookView, Flagged, Kind, Ticket, admitting, any_obtrusive, cancelling, is_obtrusive, is_ticket, lock_kind, option_to_list, or_cases, or_right, ticket_of, without}
use Rattle.mdl_steps.proofs.Tickets.{without-hit, without-miss}
use Rattle.mdl_steps.proofs.Views.{by_bool}

module _ (kind : Kind) (session number : ℕ) where
  any_without : (ts : List Ticket) → any_obtrusive kind (without session number ts) ≡ true → any_obtrusive kind ts ≡ true
  any_without [] e = e
  any_without (t ∷ ts) e = by_bool (is_ticket session number t)
      (λ hit. let later : any_obtrusive kind ts ≡ true = subst (λ (xs : List Ticket). any_obtrusive kind xs ≡ true) (without-hit session number t ts hit) e in
      ap (λ b. is_obtrusive kind t.mode || b) later ∙ or_right (is_obtrusive kind t.mode) true refl)
      (λ miss. elim (or_cases (is_obtrusive kind t.mode) (any_obtrusive kind (without session number ts)) (subst (λ (xs : List Ticket). any_obtrusive kind xs ≡ true) (without-miss session number t ts miss) e)) [
        | inl first ↦ ap (λ b. b || any_obtrusive kind ts) first
        | inr later ↦ ap (λ b. is_obtrusive kind t.mode || b) (any_without ts later) ∙ or_right (is_obtrusive kind t.mode) true refl
      ])

  -- a ticket that is there is one of those that are asked
  any_found : (ts : List Ticket) (t : Ticket) → ticket_of session number ts ≡ Some t → is_obtrusive kind t.mode ≡ true → any_obtrusive kind ts ≡ true
  any_found [] t found e = absurd (cc)
  any_found (x ∷ xs) t found e = by_bool (is_ticket session number x)
      (λ hit. let is : x ≡ t = (let first : cond (is_ticket session number x) (Some x) (ticket_of session number xs) ≡ Some x = ap (λ b. cond b (Some x) (ticket_of session number xs)) hit in cc) in
      ap (λ b. b || any_obtrusive kind xs) (ap (λ (y : Ticket). is_obtrusive kind y.mode) is ∙ e))
      (λ miss. ap (λ b. is_obtrusive kind x.mode || b) (any_found xs t (sym (ap (λ b. cond b (Some x) (ticket_of session number xs)) miss) ∙ found) e) ∙ or_right (is_obtrusive kind x.mode) true refl)

  any_push : (ts : List Ticket) (t : Ticket) → any_obtrusive kind (ts ++ t ∷ []) ≡ true → (any_obtrusive kind ts ≡ true) ⊎ (is_obtrusive kind t.mode ≡ true)
  any_push [] t e = elim (or_cases (is_obtrusive kind t.mode) false e) [ inl is ↦ inr is | inr none ↦ inr (absurd (cc)) ]
  any_push (x ∷ xs) t e = elim (or_cases (is_obtrusive kind x.mode) (any_obtrusive kind (xs ++ t ∷ [])) e) [
    | inl first ↦ inl (ap (λ b. b || any_obtrusive kind xs) first)
    | inr later ↦ elim (any_push xs t later) [
      | inl old ↦ inl (ap (λ b. is_obtrusive kind x.mode || b) old ∙ or_right (is_obtrusive kind x.mode) true refl)
      | inr new ↦ inr new
    ]
  ]

  fewer_without : (ts : List Ticket) → length (without session number ts) ≤ length ts
  fewer_without [] = omega arith
  fewer_without (t ∷ ts) = by_bool (is_ticket session number t)
      (λ hit. let is = ap length (without-hit session number t ts hit) in omega arith)
      (λ miss. let is = ap length (without-miss session number t ts miss) in let less = fewer_without ts in omega arith)

  some_found : (ts : List Ticket) (t : Ticket) → ticket_of session number ts ≡ Some t → 0 < length ts
  some_found [] t found = absurd (cc)
  some_found (x ∷ xs) t found = omega arith

-- a waiting ticket is granted
pub flagged_admitted : (session number : ℕ) (book : BookView) (t : Ticket) (slow obtrusive : Bool) → ticket_of session number book.waiting ≡ Some t → Flagged book slow obtrusive → Flagged (admitting session number book) slow obtrusive
flagged_admitted session number book t slow obtrusive found flagged = (
  (λ some. flagged.0 (lt-ltb 0 (length book.granted + length book.waiting) (let more = some_found (lock_kind book) session number book.waiting t found in omega arith))),
  λ some. flagged.1 (elim (or_cases (any_obtrusive (lock_kind book) (book.granted ++ option_to_list (ticket_of session number book.waiting))) (any_obtrusive (lock_kind book) (without session number book.waiting)) some) [
    | inl granted ↦ elim (any_push (lock_kind book) session number book.granted t (subst (λ (o : Option Ticket). any_obtrusive (lock_kind book) (book.granted ++ option_to_list o) ≡ true) found granted)) [
      | inl old ↦ ap (λ b. b || any_obtrusive (lock_kind book) book.waiting) old
      | inr new ↦ ap (λ b. any_obtrusive (lock_kind book) book.granted || b) (any_found (lock_kind book) session number book.waiting t found new) ∙ or_right (any_obtrusive (lock_kind book) book.granted) true refl
    ]
    | inr waiting ↦ ap (λ b. any_obtrusive (lock_kind book) book.granted || b) (any_without (lock_kind book) session number book.waiting waiting) ∙ or_right (any_obtrusive (lock_kind book) book.granted) true refl
  ]),
)

-- or gone
pub flagged_cancelled : (session number : ℕ) (book : BookView) (slow obtrusive : Bool) → Flagged book slow obtrusive → Flagged (cancelling session number book) slow obtrusive
flagged_cancelled session number book slow obtrusive flagged = (
  (λ some. flagged.0 (lt-ltb 0 (length book.granted + length book.waiting)
      (let were = ltb-true 0 (length book.granted + length (without session number book.waiting)) some in let fewer = fewer_without (lock_kind book) session number book.waiting in omega arith))),
  λ some. flagged.1 (elim (or_cases (any_obtrusive (lock_kind book) book.granted) (any_obtrusive (lock_kind book) (without session number book.waiting)) some) [
    | inl granted ↦ ap (λ b. b || any_obtrusive (lock_kind book) book.waiting) granted
    | inr waiting ↦ ap (λ b. any_obtrusive (lock_kind book) book.granted || b) (any_without (lock_kind book) session number book.waiting waiting) ∙ or_right (any_obtrusive (lock_kind book) book.granted) true refl
  ]),
)

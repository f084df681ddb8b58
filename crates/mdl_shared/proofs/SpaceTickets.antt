-- A session's tickets after a call, in its own list and as they are told.
use Rattle.std.proofs.Common.{◌≡◌, ℕ, Bool, true, not, ◌||◌, ◌==◌, nat_lt, List, [], ◌∷◌, ◌++◌, map, filter, find, is_some, Option, Some, None, MatchOption, if◌then◌else◌, refl, sym, ap, subst, ◌∙◌, arith}
use Rattle.mdl_shared.proofs.Common.{Held, Mode, SessionTicket, are_rising, as_held, in_mode_at, is_number, list_all, nat_tests, numbered, option_map, without_at}
use Rattle.mdl_shared.proofs.SpaceLists.{ticket-told}

-- ---- the ticket of a number

-- what is so of it is so of the ticket that the space has
pub of-held : (id : ℕ) (tickets : List SessionTicket) (t : SessionTicket) (P : Held → Type 0) → numbered id tickets ≡ Some t → P (as_held t)
    → MatchOption (find (is_number id) (map as_held tickets)) ⊥ P
of-held id tickets t P its so =
    subst (λ (o : Option Held). MatchOption o ⊥ P) (sym (ticket-told id tickets ∙ ap (λ (o : Option SessionTicket). option_map as_held o) its)) so

-- whether there is one
pub holds-told : (id : ℕ) (tickets : List SessionTicket) (b : Bool) → is_some (numbered id tickets) ≡ b → is_some (find (is_number id) (map as_held tickets)) ≡ b
holds-told id tickets b is = ap is_some (ticket-told id tickets) ∙ by (numbered id tickets) is
  where
    by : (o : Option SessionTicket) → is_some o ≡ b → is_some (option_map as_held o) ≡ b
    by None e = e
    by (Some t) e = e

-- ---- no other ticket has its number

-- whether all tickets of a number pass a test
abbrev pub all_of : ℕ → (SessionTicket → Bool) → List SessionTicket → Bool
all_of id test tickets = list_all (λ (u : SessionTicket). not (u.number == id) || test u) tickets

-- greater numbers are others
none-above : (id : ℕ) (test : SessionTicket → Bool) (tickets : List SessionTicket) → list_all (λ (h : Held). nat_lt id h.id) (map as_held tickets) ≡ true → all_of id test tickets ≡ true
none-above id test [] above = refl
none-above id test (x ∷ xs) above = grind (arith, nat_tests, none-above id test xs)

-- the ticket of a number is the only one of it
pub only-one : (id : ℕ) (test : SessionTicket → Bool) (tickets : List SessionTicket) (t : SessionTicket) → are_rising (map as_held tickets) ≡ true → numbered id tickets ≡ Some t → test t ≡ true
    → all_of id test tickets ≡ true
only-one id test [] t rising its passes = refl
only-one id test (x ∷ xs) t rising its passes = grind (arith, nat_tests, none-above id test xs, only-one id test xs t)

-- ---- tickets that go, and that get another mode

abbrev pub is_here : ℕ → SessionTicket → Bool
is_here place t = t.place == place

-- a ticket as it is told, in another mode where it has the number
abbrev pub in_mode_told : ℕ → (Mode → Mode) → Held → Held
in_mode_told id change h = if is_number id h then record h { mode = change h.mode } else h

-- without the ticket of a number
pub given-up : (place id : ℕ) (tickets : List SessionTicket) → all_of id (is_here place) tickets ≡ true
    → map as_held (without_at place id tickets) ≡ filter (λ (h : Held). not (is_number id h)) (map as_held tickets)
given-up place id [] all = refl
given-up place id (x ∷ xs) all = grind (arith, nat_tests, given-up place id xs)

-- with it in another mode
pub in-mode : (place id : ℕ) (mode : Mode) (change : Mode → Mode) (test : SessionTicket → Bool) (tickets : List SessionTicket)
    → ((u : SessionTicket) → test u ≡ true → ((u.place == place) ≡ true) × (change u.mode ≡ mode)) → all_of id test tickets ≡ true
    → map as_held (in_mode_at place id mode tickets)
    ≡ map (λ (h : Held). if is_number id h then record h { mode = change h.mode } else h) (map as_held tickets)
in-mode place id mode change test [] to all = refl
in-mode place id mode change test (x ∷ xs) to all = grind (arith, nat_tests, to x, in-mode place id mode change test xs)

-- where that is the mode that it has
pub same-mode : (id : ℕ) (change : Mode → Mode) (test : SessionTicket → Bool) (tickets : List SessionTicket) → ((u : SessionTicket) → test u ≡ true → change u.mode ≡ u.mode)
    → all_of id test tickets ≡ true
    → map as_held tickets ≡ map (λ (h : Held). if is_number id h then record h { mode = change h.mode } else h) (map as_held tickets)
same-mode id change test [] same all = refl
same-mode id change test (x ∷ xs) same all = grind (arith, nat_tests, same x, same-mode id change test xs)

-- with it in another mode, and without another one
pub merged-told : (place old new : ℕ) (mode : Mode) (tickets : List SessionTicket) → all_of old (is_here place) tickets ≡ true → all_of new (is_here place) tickets ≡ true
    → map as_held (without_at place new (in_mode_at place old mode tickets))
    ≡ map (λ (h : Held). if is_number old h then record h { mode = mode } else h) (filter (λ (h : Held). not (is_number new h)) (map as_held tickets))
merged-told place old new mode [] here there = refl
merged-told place old new mode (x ∷ xs) here there = grind (arith, nat_tests, merged-told place old new mode xs)

-- with one more
pub told-last : (tickets : List SessionTicket) (t : SessionTicket) → map as_held (tickets ++ t ∷ []) ≡ map as_held tickets ++ as_held t ∷ []
told-last [] t = refl
told-last (x ∷ xs) t = ap (λ (held : List Held). as_held x ∷ held) (told-last xs t)

-- Lists of held tickets: what passes a test of all, and numbers that rise, as tickets are gained, given up and changed.
use Rattle.std.proofs.Common.{◌≡◌, ℕ, Bool, true, nat_lt, List, [], ◌∷◌, ◌++◌, map, filter, find, Some, Contains, refl, sym, ap, subst, arith}
use Rattle.std.proofs.lemmas.List.Sums.{AllPass-from_list_all}
use Rattle.mdl_session_laws.proofs.Common.{Held, and_from, and_parts, are_below, are_rising, list_all, list_all-append, nat_tests}

-- ---- tests of all

module _ (test : Held → Bool) where
  -- fewer tickets
  pub all-fewer : (keep : Held → Bool) (held : List Held) → list_all test held ≡ true → list_all test (filter keep held) ≡ true
  all-fewer keep [] all = refl
  all-fewer keep (t ∷ later) all = grind (arith, all-fewer keep later)

  -- tickets that were changed in what isn't tested
  pub all-changed : (change : Held → Held) → ((t : Held) → test (change t) ≡ test t) → (held : List Held) → list_all test held ≡ true
      → list_all test (map change held) ≡ true
  all-changed change same [] all = refl
  all-changed change same (t ∷ later) all = grind (arith, same t, all-changed change same later)

  -- one more
  pub all-last : (held : List Held) (t : Held) → list_all test held ≡ true → test t ≡ true → list_all test (held ++ t ∷ []) ≡ true
  all-last held t all passes = grind (arith, list_all-append test held (t ∷ []))

  -- the one that is found
  pub all-found : (which : Held → Bool) (held : List Held) (t : Held) → list_all test held ≡ true → find which held ≡ Some t → test t ≡ true
  all-found which [] t all found = cc
  all-found which (x ∷ later) t all found = grind (arith, all-found which later t)

  -- one among them
  pub all-among : (held : List Held) (t : Held) → list_all test held ≡ true → Contains held t → test t ≡ true
  all-among held t all among = subst (λ x. test x ≡ true) among.2 (AllPass-from_list_all test held all among.0 t among.1)

-- ---- rising numbers

-- fewer tickets
pub rising-fewer : (keep : Held → Bool) (held : List Held) → are_rising held ≡ true → are_rising (filter keep held) ≡ true
rising-fewer keep [] rising = refl
rising-fewer keep (t ∷ later) rising = grind (arith, all-fewer (λ (other : Held). nat_lt t.id other.id) keep later, rising-fewer keep later)

-- tickets that keep their numbers
pub rising-changed : (change : Held → Held) → ((t : Held) → (change t).id ≡ t.id) → (held : List Held) → are_rising held ≡ true → are_rising (map change held) ≡ true
rising-changed change same [] rising = refl
rising-changed change same (t ∷ later) rising =
    let h = and_parts (list_all (λ (other : Held). nat_lt t.id other.id) later) (are_rising later) rising in
    and_from _ _
    (subst (λ n. list_all (λ (other : Held). nat_lt n other.id) (map change later) ≡ true) (sym (same t))
    (all-changed (λ (other : Held). nat_lt t.id other.id) change (λ other. ap (nat_lt t.id) (same other)) later h.0))
    (rising-changed change same later h.1)

-- one more, of a greater number
pub rising-last : (held : List Held) (t : Held) → are_rising held ≡ true → are_below t.id held ≡ true → are_rising (held ++ t ∷ []) ≡ true
rising-last [] t rising below = refl
rising-last (x ∷ later) t rising below = grind (arith, nat_tests, list_all-append (λ (other : Held). nat_lt x.id other.id) later (t ∷ []), rising-last later t)

-- numbers below one are below a greater one
pub below-up : (number greater : ℕ) → nat_lt number greater ≡ true → (held : List Held) → are_below number held ≡ true → are_below greater held ≡ true
below-up number greater up [] below = refl
below-up number greater up (t ∷ later) below = grind (arith, nat_tests, below-up number greater up later)

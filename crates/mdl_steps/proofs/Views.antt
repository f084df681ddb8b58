-- Lists of views, of latches' records and of tickets: look-ups after one element was changed, joined or dropped.
use Rattle.std.proofs.Common.{◌≡◌, ◌≢◌, ℕ, zero, suc, ◌<◌, Bool, true, false, not, cond, ◌==◌, List, [], ◌∷◌, length, map, set, Some, None, refl, sym, ap, ◌∙◌, subst, arith, ne_eqb, eq-eqb, eqb-true}
use Rattle.mdl_steps.proofs.Common.{Each, LatchRecord, at_map, filter, get_elem?, held_at, map-set, set_again, some, some-injective, some-ne-none}

-- by cases on a test
pub by_bool : {P : Type 0} → (b : Bool) → (b ≡ true → P) → (b ≡ false → P) → P
by_bool true so otherwise = so refl
by_bool false so otherwise = otherwise refl

-- numbers that differ are told apart, whichever comes first
pub other : (a b : ℕ) → a ≢ b → (a == b) ≡ false
other a b differ = ne_eqb a b differ

-- ---- lists by places

-- what stands in a list stands inside it
pub at_inside : {A : Type 0} → (xs : List A) (j : ℕ) (a : A) → get_elem? xs j ≡ some a → j < length xs
at_inside [] j a e = absurd (some-ne-none a (sym e))
at_inside (x ∷ xs) zero a e = omega arith
at_inside (x ∷ xs) (suc j) a e = let rest = at_inside xs j a e in omega arith

-- what holds of each element holds of one that stands there
pub each_at : {A : Type 0} → (P : A → Type 0) (xs : List A) → Each P xs → (j : ℕ) (a : A) → get_elem? xs j ≡ some a → P a
each_at P [] all j a e = absurd (some-ne-none a (sym e))
each_at P (x ∷ xs) all zero a e = subst P (some-injective x a e) all.0
each_at P (x ∷ xs) all (suc j) a e = each_at P xs all.1 j a e

module _ {A B : Type 0} (f : A → B) where
  -- what stands in a mapped list
  pub at_unmap : (xs : List A) (j : ℕ) (b : B) → get_elem? (map f xs) j ≡ some b → (a : A) × (get_elem? xs j ≡ some a) × (f a ≡ b)
  at_unmap [] j b e = absurd (some-ne-none b (sym e))
  at_unmap (x ∷ xs) zero b e = (x, refl, some-injective (f x) b e)
  at_unmap (x ∷ xs) (suc j) b e = at_unmap xs j b e

  -- an element is replaced by one that is mapped alike
  pub map_kept : (xs : List A) (i : ℕ) (v w : A) → get_elem? xs i ≡ some v → f w ≡ f v → map f (set xs i w) ≡ map f xs
  map_kept xs i v w at same = map-set f xs i w ∙ ap (λ (y : B). set (map f xs) i y) same ∙ set_again (map f xs) i (f v) (at_map f xs i v at)

-- ---- records of latches

-- the record that was taken last
pub held_at-first : (place : ℕ) (h : LatchRecord) (latches : List LatchRecord) → h.place ≡ place → held_at place (h ∷ latches) ≡ Some h
held_at-first place h latches here = rw (eq-eqb h.place place here) refl

-- the records of other places are found behind it
pub held_at-past : (place q : ℕ) (h : LatchRecord) (latches : List LatchRecord) → h.place ≡ place → q ≢ place → held_at q (h ∷ latches) ≡ held_at q latches
held_at-past place q h latches here else = rw (other h.place q (λ e. else (sym e ∙ here))) refl

-- no record of a place is left where it was dropped
pub held_at-dropped : (place : ℕ) (latches : List LatchRecord) → held_at place (filter (λ h. not (h.place == place)) latches) ≡ None
held_at-dropped place [] = refl
held_at-dropped place (h ∷ hs) = by_bool (h.place == place) (λ e. rw e (held_at-dropped place hs)) (λ e. rw (e, e) (held_at-dropped place hs))

-- and those of other places stay
pub held_at-undropped : (place q : ℕ) (latches : List LatchRecord) → q ≢ place → held_at q (filter (λ h. not (h.place == place)) latches) ≡ held_at q latches
held_at-undropped place q [] else = refl
held_at-undropped place q (h ∷ hs) else =
    by_bool (h.place == place)
    (λ e. rw (e, other h.place q (λ d. else (sym d ∙ eqb-true h.place place e))) (held_at-undropped place q hs else))
    (λ e. rw e (ap (λ o. cond (h.place == q) (Some h) o) (held_at-undropped place q hs else)))

module _ (place : ℕ) (f : LatchRecord → LatchRecord) (stays : (h : LatchRecord) → (f h).place ≡ h.place) where
  -- the record of a place, changed
  pub held_at-changed : (latches : List LatchRecord) (h : LatchRecord) → held_at place latches ≡ Some h → held_at place (map (λ x. cond (x.place == place) (f x) x) latches) ≡ Some (f h)
  held_at-changed [] h e = cc
  held_at-changed (x ∷ xs) h e =
      by_bool (x.place == place)
      (λ t. let same : x ≡ h = (let first : cond (x.place == place) (Some x) (held_at place xs) ≡ Some x = ap (λ b. cond b (Some x) (held_at place xs)) t in cc) in
      rw (t, eq-eqb (f x).place place (stays x ∙ eqb-true x.place place t)) (ap (λ y. Some (f y)) same))
      (λ t. rw (t, t) (held_at-changed xs h (rw t at e)))

  -- and those of other places are the same
  pub held_at-unchanged : (q : ℕ) (latches : List LatchRecord) → q ≢ place → held_at q (map (λ x. cond (x.place == place) (f x) x) latches) ≡ held_at q latches
  held_at-unchanged q [] else = refl
  held_at-unchanged q (x ∷ xs) else =
      by_bool (x.place == place)
      (λ t. let was : x.place ≡ place = eqb-true x.place place t in
      rw (t, other (f x).place q (λ d. else (sym d ∙ stays x ∙ was)), other x.place q (λ d. else (sym d ∙ was))) (held_at-unchanged q xs else))
      (λ t. rw t (ap (λ o. cond (x.place == q) (Some x) o) (held_at-unchanged q xs else)))

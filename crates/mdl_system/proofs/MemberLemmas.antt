-- Members of mapped and joined lists, and of lists in which no two elements have one name.
use Rattle.std.proofs.Common.{◌≡◌, ◌≢◌, ℕ, zero, suc, ◌<◌, Bool, true, false, cond, inl, inr, List, [], ◌∷◌, ◌++◌, length, map, Some, refl, sym, ap, subst, ◌∙◌, arith}
use Rattle.std.specs.Prelude.{Contains, AllPairs, slice_index_or}
use Rattle.std.specs.List.{flat_map, find, list_any}
use Rattle.std.proofs.lemmas.Bool.{or_cases, false≢true}
use Rattle.std.proofs.lemmas.List.Elements.{Contains-append_left, Contains-append_right, Contains-append_cases}
use Rattle.std.proofs.lemmas.List.Folds.{list_any_at}
use Rattle.mdl_system.specs.Events.{Gains}
use Rattle.mdl_system.proofs.OrderLemmas.{Contains-cons_cases, Contains-here, Contains-later}

pub Contains-none : {T : Type 0} (y : T) → Contains [] y → ⊥
Contains-none y among = let lt = among.1 in omega arith

-- ---- mapped and joined

pub Contains-map : {A B : Type 0} (f : A → B) (xs : List A) (x : A) → Contains xs x → Contains (map f xs) (f x)
Contains-map f [] x among = absurd (Contains-none x among)
Contains-map f (y ∷ ys) x among = elim (Contains-cons_cases y ys x among) [
  | inl later ↦ Contains-later (f y) (map f ys) (f x) (Contains-map f ys x later)
  | inr here ↦ subst (λ z. Contains (map f (y ∷ ys)) (f z)) (sym here) (Contains-here (f y) (map f ys))
]

pub Contains-map_from : {A B : Type 0} (f : A → B) (xs : List A) (b : B) → Contains (map f xs) b → (x : A) × Contains xs x × (b ≡ f x)
Contains-map_from f [] b among = absurd (Contains-none b among)
Contains-map_from f (y ∷ ys) b among = elim (Contains-cons_cases (f y) (map f ys) b among) [
  | inl later ↦ let from = Contains-map_from f ys b later in (from.0, Contains-later y ys from.0 from.1, from.2)
  | inr here ↦ (y, Contains-here y ys, here)
]

pub Contains-flat_map : {A B : Type 0} (f : A → List B) (xs : List A) (k : ℕ) (d : A) (b : B) → k < length xs → Contains (f (slice_index_or xs k d)) b → Contains (flat_map f xs) b
Contains-flat_map f [] k d b lt among = absurd (omega arith)
Contains-flat_map f (x ∷ xs) zero d b lt among = Contains-append_left (f x) (flat_map f xs) b among
Contains-flat_map f (x ∷ xs) (suc k) d b lt among = Contains-append_right (f x) (flat_map f xs) b (Contains-flat_map f xs k d b (omega arith) among)

pub Contains-flat_map_from : {A B : Type 0} (f : A → List B) (xs : List A) (d : A) (b : B) → Contains (flat_map f xs) b
    → (k : ℕ) × (k < length xs) × Contains (f (slice_index_or xs k d)) b
Contains-flat_map_from f [] d b among = absurd (Contains-none b among)
Contains-flat_map_from f (x ∷ xs) d b among = elim (Contains-append_cases (f x) (flat_map f xs) b among) [
  | inl first ↦ (0, omega arith, first)
  | inr later ↦ let from = Contains-flat_map_from f xs d b later in let lt = from.1 in (suc from.0, omega arith, from.2)
]

-- ---- some member that passes a test

pub any-found : {T : Type 0} (test : T → Bool) (xs : List T) → list_any test xs ≡ true → (x : T) × Contains xs x × (test x ≡ true)
any-found test [] found = absurd (false≢true found)
any-found test (x ∷ xs) found = elim (or_cases (test x) (list_any test xs) found) [
  | inl here ↦ (x, Contains-here x xs, here)
  | inr later ↦ let h = any-found test xs later in (h.0, Contains-later x xs h.0 h.1, h.2)
]

pub any-from : {T : Type 0} (test : T → Bool) (xs : List T) (x : T) → Contains xs x → test x ≡ true → list_any test xs ≡ true
any-from test xs x among passes = list_any_at test xs among.0 x among.1 (ap test among.2 ∙ passes)

-- ---- one more at the end

pub push-gains : {T : Type 0} (xs : List T) (x : T) → Gains x xs (xs ++ x ∷ [])
push-gains xs x y = (
  (λ among. elim (Contains-append_cases xs (x ∷ []) y among) [
    | inl old ↦ inl old
    | inr new ↦ elim (Contains-cons_cases x [] y new) [ inl none ↦ absurd (Contains-none y none) | inr e ↦ inr e ]
  ]),
  λ either. elim either [
    | inl old ↦ Contains-append_left xs (x ∷ []) y old
    | inr e ↦ subst (Contains (xs ++ x ∷ [])) (sym e) (Contains-append_right xs (x ∷ []) x (Contains-here x []))
  ],
)

-- ---- no two elements have one name, and a test asks for the name of one of them

module _ {T N : Type 0} (name : T → N) where
  abbrev pub AreApart : List T → Type 0
  AreApart xs = AllPairs (λ (one other : T). name one ≢ name other) xs

  pub apart-first : (x : T) (xs : List T) → AreApart (x ∷ xs) → (y : T) → Contains xs y → name x ≢ name y
  apart-first x xs apart y among = subst (λ z. name x ≢ name z) among.2 (let lt = among.1 in apart 0 (suc among.0) y (omega arith) (omega arith))

  pub apart-rest : (x : T) (xs : List T) → AreApart (x ∷ xs) → AreApart xs
  apart-rest x xs apart i j d lt inside = apart (suc i) (suc j) d (omega arith) (omega arith)

  module _ (test : T → Bool) (t : T) (passes : test t ≡ true) (named : (x : T) → test x ≡ true → name x ≡ name t) where
    pub find-named : (xs : List T) → AreApart xs → Contains xs t → find test xs ≡ Some t
    find-named [] apart among = absurd (Contains-none t among)
    find-named (x ∷ xs) apart among =
        elim (test x) as (λ b. test x ≡ b → cond b (Some x) (find test xs) ≡ Some t) [
          | true ↦ λ passed. elim (Contains-cons_cases x xs t among) [
            | inl later ↦ absurd (apart-first x xs apart t later (named x passed))
            | inr here ↦ ap (λ z. Some z) (sym here)
          ]
          | false ↦ λ failed. elim (Contains-cons_cases x xs t among) [
            | inl later ↦ find-named xs (apart-rest x xs apart) later
            | inr here ↦ absurd (let also : test x ≡ true = ap test (sym here) ∙ passes in cc)
          ]
        ] refl

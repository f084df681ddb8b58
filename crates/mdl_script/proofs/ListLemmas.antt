-- What passes a test among numbers, and what is found.
use Rattle.std.proofs.Common.{◌≡◌, ◌≢◌, ℕ, zero, suc, ◌<◌, ◌≤◌, ◌+◌, Bool, true, false, cond, List, [], ◌∷◌, length, take, get_or, filter, Some, None, refl, sym, ap, subst, arith, add-one, ◌⊎◌, inl, inr}
use Rattle.std.specs.Prelude.{not, ◌==◌, insert}
use Rattle.std.specs.List.{All, find, position, position_or_len, range_with_len}
use Rattle.std.specs.Option.{unwrap_or}
use Rattle.std.proofs.Math.Dec.{eqb, leb}
use Rattle.std.proofs.lemmas.Bool.{le-ltb, lt-ltb}
use Rattle.std.proofs.lemmas.Bool.Decides.{eqb_tells, leb_tells}
use Rattle.std.proofs.lemmas.List.Sums.{prefix_len-le-length}
use Rattle.mdl_script.specs.Plays.{insertion_index}
use Rattle.std.proofs.lemmas.List.Elements.{All-nil, All-cons, All-head, All-tail}

-- two tests that say the same of each number
pub filter-same : (p q : ℕ → Bool) (a n : ℕ) → ((k : ℕ) → a ≤ k → k < a + n → p k ≡ q k) → filter p (range_with_len a n) ≡ filter q (range_with_len a n)
filter-same p q a zero same = refl
filter-same p q a (suc n) same =
    let rest = filter-same p q (a + 1) n (λ k least most. same k (omega arith) (omega arith)) in
    let here = same a (omega arith) (omega arith) in
    rw (here, rest)

-- numbers from a greater one on have it before all of them
place-first : (p : ℕ → Bool) (who a n : ℕ) → who < a → insertion_index who (filter p (range_with_len a n)) ≡ 0
place-first p who a zero less = refl
place-first p who a (suc n) less =
    let later = place-first p who (a + 1) n (omega (arith, less)) in
    let greater = lt-ltb who a less in
    elim (p a) as (λ b. insertion_index who (cond b (a ∷ filter p (range_with_len (a + 1) n)) (filter p (range_with_len (a + 1) n))) ≡ 0) [
      | true ↦ rw greater refl
      | false ↦ later
    ]

-- one number more passes: it stands in its place
pub filter-noted : (p q : ℕ → Bool) (who a n : ℕ) → ((k : ℕ) → a ≤ k → k ≢ who → q k ≡ p k) → p who ≡ false → q who ≡ true → a ≤ who → who < a + n
    → filter q (range_with_len a n) ≡ insert (filter p (range_with_len a n)) (insertion_index who (filter p (range_with_len a n))) who
filter-noted p q who a zero same before now least most = absurd (omega (arith, least, most))
filter-noted p q who a (suc n) same before now least most =
    by (λ above. filter-noted p q who (a + 1) n (λ k least. same k (omega (arith, least))) before now above (omega (arith, most))) (eqb_tells a who) where
      by : (a + 1 ≤ who → filter q (range_with_len (a + 1) n) ≡ insert (filter p (range_with_len (a + 1) n)) (insertion_index who (filter p (range_with_len (a + 1) n))) who)
          → ((eqb a who ≡ true) × (a ≡ who)) ⊎ ((eqb a who ≡ false) × (a ≢ who))
          → filter q (range_with_len a (suc n)) ≡ insert (filter p (range_with_len a (suc n))) (insertion_index who (filter p (range_with_len a (suc n)))) who
      by later (inl here) =
          let passed : p a ≡ false = subst (λ k. p k ≡ false) (sym here.1) before in
          let passes : q a ≡ true = subst (λ k. q k ≡ true) (sym here.1) now in
          let others = filter-same q p (a + 1) n (λ k least most. same k (omega (arith, least)) (λ e. omega (arith, least, e, here.1))) in
          let first = place-first p who (a + 1) n (omega (arith, here.1)) in
          rw (passed, passes, first, others) (ap (λ k. k ∷ filter p (range_with_len (a + 1) n)) here.1)
      by later (inr other) =
          let rest = later (omega (arith, least, other.1)) in
          let lower = le-ltb who a (omega (arith, least)) in
          let one : 1 + insertion_index who (filter p (range_with_len (a + 1) n)) ≡ suc (insertion_index who (filter p (range_with_len (a + 1) n))) = omega arith in
          let as_before = same a (omega arith) other.1 in
          rw as_before (elim (p a) as (λ b. cond b (a ∷ filter q (range_with_len (a + 1) n)) (filter q (range_with_len (a + 1) n))
          ≡ insert (cond b (a ∷ filter p (range_with_len (a + 1) n)) (filter p (range_with_len (a + 1) n))) (insertion_index who (cond b (a ∷ filter p (range_with_len (a + 1) n)) (filter p (range_with_len (a + 1) n)))) who) [
            | true ↦ rw (lower, one) (ap (λ xs. a ∷ xs) rest)
            | false ↦ rest
          ])

-- one number passes no more: it is struck
pub filter-struck : (p q : ℕ → Bool) (who a n : ℕ) → ((k : ℕ) → a ≤ k → k ≢ who → q k ≡ p k) → q who ≡ false
    → filter q (range_with_len a n) ≡ filter (λ k. not (k == who)) (filter p (range_with_len a n))
filter-struck p q who a zero same now = refl
filter-struck p q who a (suc n) same now = by (filter-struck p q who (a + 1) n (λ k least. same k (omega (arith, least))) now) (eqb_tells a who) where
  by : filter q (range_with_len (a + 1) n) ≡ filter (λ k. not (k == who)) (filter p (range_with_len (a + 1) n)) → ((eqb a who ≡ true) × (a ≡ who)) ⊎ ((eqb a who ≡ false) × (a ≢ who))
      → filter q (range_with_len a (suc n)) ≡ filter (λ k. not (k == who)) (filter p (range_with_len a (suc n)))
  by rest (inl here) =
      let fails : q a ≡ false = subst (λ k. q k ≡ false) (sym here.1) now in
      rw fails (elim (p a) as (λ b. filter q (range_with_len (a + 1) n)
      ≡ filter (λ k. not (k == who)) (cond b (a ∷ filter p (range_with_len (a + 1) n)) (filter p (range_with_len (a + 1) n)))) [
        | true ↦ rw here.0 rest
        | false ↦ rest
      ])
  by rest (inr other) =
      let as_before = same a (omega arith) other.1 in
      rw as_before (elim (p a) as (λ b. cond b (a ∷ filter q (range_with_len (a + 1) n)) (filter q (range_with_len (a + 1) n))
      ≡ filter (λ k. not (k == who)) (cond b (a ∷ filter p (range_with_len (a + 1) n)) (filter p (range_with_len (a + 1) n)))) [
        | true ↦ rw other.0 (ap (λ xs. a ∷ xs) rest)
        | false ↦ rest
      ])

-- the first that passes, or behind all
pub first-or-len : {X : Type 0} (p : X → Bool) (xs : List X) → unwrap_or (position p xs) (length xs) ≡ position_or_len p xs
first-or-len p xs = by (leb_tells (suc (position_or_len p xs)) (length xs)) where
  by : ((leb (suc (position_or_len p xs)) (length xs) ≡ true) × (suc (position_or_len p xs) ≤ length xs))
      ⊎ ((leb (suc (position_or_len p xs)) (length xs) ≡ false) × (length xs < suc (position_or_len p xs)))
      → unwrap_or (position p xs) (length xs) ≡ position_or_len p xs
  by (inl inside) = rw inside.0 refl
  by (inr past) = rw past.0 (omega (arith, past.1, prefix_len-le-length (λ x. not (p x)) xs))

-- where none passes, nothing is left
pub filter-none : (p : ℕ → Bool) (a n : ℕ) → ((k : ℕ) → a ≤ k → k < a + n → p k ≡ false) → filter p (range_with_len a n) ≡ []
filter-none p a zero none = refl
filter-none p a (suc n) none =
    let rest = filter-none p (a + 1) n (λ k least most. none k (omega arith) (omega arith)) in
    let here = none a (omega arith) (omega arith) in
    rw (here, rest) refl

-- what is so of all numbers is so of those that pass
pub All-filter_range : (P : ℕ → Type 0) (p : ℕ → Bool) (a n : ℕ) → ((k : ℕ) → a ≤ k → k < a + n → p k ≡ true → P k) → All P (filter p (range_with_len a n))
All-filter_range P p a zero each = All-nil P
All-filter_range P p a (suc n) each =
    let rest = All-filter_range P p (a + 1) n (λ k least most. each k (omega arith) (omega arith)) in
    elim (p a) as (λ b. p a ≡ b → All P (cond b (a ∷ filter p (range_with_len (a + 1) n)) (filter p (range_with_len (a + 1) n)))) [
      | true ↦ λ passes. All-cons P a (filter p (range_with_len (a + 1) n)) (each a (omega arith) (omega arith) passes) rest
      | false ↦ λ _. rest
    ] refl

-- what holds of all holds of what is found
pub All-find : {X : Type 0} (P : X → Type 0) (p : X → Bool) (xs : List X) (x : X) → All P xs → find p xs ≡ Some x → P x
All-find P p [] x all found = cc
All-find P p (y ∷ ys) x all found =
    elim (p y) as (λ b. cond b (Some y) (find p ys) ≡ Some x → P x) [
      | true ↦ λ e. let same : y ≡ x = cc in subst P same (All-head P y ys all)
      | false ↦ λ e. All-find P p ys x (All-tail P y ys all) e
    ] found

-- the first of those behind a front in which nothing is found
pub find-at : {X : Type 0} (p : X → Bool) (xs : List X) (i : ℕ) (d : X) → i < length xs → find p (take i xs) ≡ None → p (get_or xs i d) ≡ true → find p xs ≡ Some (get_or xs i d)
find-at p [] i d inside none passes = absurd (omega arith)
find-at p (x ∷ xs) zero d inside none passes = rw passes refl
find-at p (x ∷ xs) (suc i) d inside none passes =
    elim (p x) as (λ b. cond b (Some x) (find p (take i xs)) ≡ None → cond b (Some x) (find p xs) ≡ Some (get_or xs i d)) [
      | true ↦ λ e. cc
      | false ↦ λ e. find-at p xs i d (omega arith) e passes
    ] none

-- nothing is found one further
pub find-more : {X : Type 0} (p : X → Bool) (xs : List X) (i : ℕ) (d : X) → i < length xs → find p (take i xs) ≡ None → p (get_or xs i d) ≡ false → find p (take (i + 1) xs) ≡ None
find-more p xs i d inside none fails = rw (add-one i) (find-further p xs i d inside none fails) where
  find-further : {X : Type 0} (p : X → Bool) (xs : List X) (i : ℕ) (d : X) → i < length xs → find p (take i xs) ≡ None → p (get_or xs i d) ≡ false → find p (take (suc i) xs) ≡ None
  find-further p [] i d inside none fails = absurd (omega arith)
  find-further p (x ∷ xs) zero d inside none fails = rw fails refl
  find-further p (x ∷ xs) (suc i) d inside none fails =
      elim (p x) as (λ b. cond b (Some x) (find p (take i xs)) ≡ None → cond b (Some x) (find p (take (suc i) xs)) ≡ None) [
        | true ↦ λ e. cc
        | false ↦ λ e. find-further p xs i d (omega arith) e fails
      ] none

-- where none passes, none is found
pub find-none : (p : ℕ → Bool) (xs : List ℕ) → ((x : ℕ) → p x ≡ false) → find p xs ≡ None
find-none p [] none = refl
find-none p (x ∷ xs) none = rw (none x) (find-none p xs none)

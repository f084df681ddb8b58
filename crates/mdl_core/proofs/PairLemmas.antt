-- BookView any two members of which are in a relation, the one member that passes a test, and lists of rising numbers.
use Rattle.std.proofs.Common.{◌≡◌, ◌⊎◌, ℕ, suc, ◌<◌, Bool, true, false, cond, inl, inr, List, [], ◌∷◌, ◌++◌, get_or, map, refl, sym, ap, subst, ◌∙◌, arith}
use Rattle.std.specs.Prelude.{All, AllPairs, Contains, IsTrue, filter, nat_lt}
use Rattle.std.specs.List.{list_all, before_first, after_first, position_or_len}
use Rattle.std.proofs.lemmas.Bool.Decides.{nat_tests}
use Rattle.std.proofs.lemmas.List.Elements.{All-contains, Contains-get_or}
use Rattle.std.proofs.lemmas.List.Kept.{AllPairs-cons}
use Rattle.std.proofs.lemmas.List.Quantifiers.{all_pairs_push}
use Rattle.std.proofs.lemmas.List.Sums.{position_or_len_is, split_at_first}
use Rattle.mdl_calls.specs.declared.answers.Held.{Held}
use Rattle.mdl_calls.specs.SessionLocks.{are_rising}
use Rattle.mdl_system.proofs.MemberLemmas.{AreApart}
use Rattle.mdl_system.proofs.OrderLemmas.{Contains-cons_cases, Contains-here, Contains-later, around, around_cases, middle, within}

pub none-in : {T : Type 0} (x : T) → Contains [] x → ⊥
none-in x among = let lt = among.1 in omega arith

-- ---- any two members

module _ {T : Type 0} (R : T → T → Type 0) where
  pub all-from_members : (P : T → Type 0) (xs : List T) → ((x : T) → Contains xs x → P x) → All P xs
  all-from_members P xs f k d lt = f (get_or xs k d) (Contains-get_or xs k d lt)

  pub pairs-head : (x : T) (xs : List T) → AllPairs R (x ∷ xs) → (y : T) → Contains xs y → R x y
  pairs-head x xs pairs y among = All-contains (R x) xs y (λ k d lt. pairs 0 (suc k) d (omega arith) (omega arith)) among

  pub pairs-tail : (x : T) (xs : List T) → AllPairs R (x ∷ xs) → AllPairs R xs
  pairs-tail x xs pairs i j d lt within = pairs (suc i) (suc j) d (omega arith) (omega arith)

  pub pairs-push : (xs : List T) (x : T) → AllPairs R xs → ((y : T) → Contains xs y → R y x) → AllPairs R (xs ++ x ∷ [])
  pairs-push xs x pairs others = all_pairs_push R xs x pairs (λ k d lt. others (get_or xs k d) (Contains-get_or xs k d lt))

  pub pairs-fewer : (before after : List T) (x : T) → AllPairs R (before ++ x ∷ after) → AllPairs R (before ++ after)
  pairs-fewer [] after x pairs = pairs-tail x after pairs
  pairs-fewer (b ∷ bs) after x pairs =
      AllPairs-cons R b (bs ++ after) (all-from_members (R b) (bs ++ after) (λ y among. pairs-head b (bs ++ x ∷ after) pairs y (around bs after x y among)))
      (pairs-fewer bs after x (pairs-tail b (bs ++ x ∷ after) pairs))

  pub pairs-others : ((x y : T) → R x y → R y x) → (before after : List T) (x : T) → AllPairs R (before ++ x ∷ after)
      → (y : T) → Contains (before ++ after) y → R y x
  pairs-others swap [] after x pairs y among = swap x y (pairs-head x after pairs y among)
  pairs-others swap (b ∷ bs) after x pairs y among = elim (Contains-cons_cases b (bs ++ after) y among) [
    | inl later ↦ pairs-others swap bs after x (pairs-tail b (bs ++ x ∷ after) pairs) y later
    | inr e ↦ subst (λ (z : T). R z x) (sym e) (pairs-head b (bs ++ x ∷ after) pairs x (middle bs after x))
  ]

-- another may stand for one that is in the relation to what that is
module _ {T : Type 0} (R : T → T → Type 0) (x y : T) (left : (z : T) → R x z → R y z) (right : (z : T) → R z x → R z y) where
  pub pairs-turned : (before after : List T) → AllPairs R (before ++ x ∷ after) → AllPairs R (before ++ y ∷ after)
  pairs-turned [] after pairs =
      AllPairs-cons R y after (all-from_members R (R y) after (λ z among. left z (pairs-head R x after pairs z among))) (pairs-tail R x after pairs)
  pairs-turned (b ∷ bs) after pairs =
      AllPairs-cons R b (bs ++ y ∷ after)
      (all-from_members R (R b) (bs ++ y ∷ after) (λ z among. elim (around_cases bs after y z among) [
        | inl rest ↦ pairs-head R b (bs ++ x ∷ after) pairs z (around bs after x z rest)
        | inr here ↦ subst (R b) (sym here) (right b (pairs-head R b (bs ++ x ∷ after) pairs x (middle bs after x)))
      ]))
      (pairs-turned bs after (pairs-tail R b (bs ++ x ∷ after) pairs))

-- lists of what is made of each member agree where that does
pub map-agree : {X Y : Type 0} (f g : X → Y) (xs : List X) → ((x : X) → Contains xs x → f x ≡ g x) → map f xs ≡ map g xs
map-agree f g [] same = refl
map-agree f g (x ∷ xs) same = λ i. same x (Contains-here x xs) i ∷ map-agree f g xs (λ y among. same y (Contains-later x xs y among)) i

-- what changes no member changes no list
pub map-same : {X : Type 0} (f : X → X) (xs : List X) → ((x : X) → Contains xs x → f x ≡ x) → map f xs ≡ xs
map-same f [] same = refl
map-same f (x ∷ xs) same = λ i. same x (Contains-here x xs) i ∷ map-same f xs (λ y among. same y (Contains-later x xs y among)) i

-- ---- the one member that passes a test for its name

module _ {T N : Type 0} (name : T → N) (p : T → Bool) (x : T) (passes : p x ≡ true) (named : (y : T) → p y ≡ true → name y ≡ name x)
    (xs : List T) (apart : AreApart name xs) (among : Contains xs x) where
  first : position_or_len p xs ≡ among.0
  first =
      let inside = among.1 in
      position_or_len_is p xs among.0 x (omega arith)
      (λ k lt. fails (p (get_or xs k x)) (λ yes. apart k among.0 x lt inside (named (get_or xs k x) yes ∙ ap name (sym among.2))))
      (λ _. ap p among.2 ∙ passes)
    where
      fails : (b : Bool) → (b ≡ true → ⊥) → b ≡ false
      fails true n = absurd (n refl)
      fails false n = refl

  pub split-at : xs ≡ before_first p xs ++ x ∷ after_first p xs
  split-at =
      let lt = among.1 in
      let e = first in
      split_at_first p xs x (omega arith) ∙ ap (λ y. before_first p xs ++ y ∷ after_first p xs) (ap (λ n. get_or xs n x) first ∙ among.2)

-- where all pass a test, it keeps them all
pub filter-all : {T : Type 0} (p : T → Bool) (xs : List T) → ((x : T) → Contains xs x → p x ≡ true) → filter p xs ≡ xs
filter-all p [] all = refl
filter-all p (x ∷ xs) all = λ i. cond (all x (Contains-here x xs) i) (x ∷ filter-all p xs (λ y among. all y (Contains-later x xs y among)) i) (filter p xs)

-- ---- rising numbers

-- the number of one ticket is below another's
abbrev pub below : Held → Held → Type 0
below one other = one.id < other.id

less-members : (n : ℕ) (xs : List Held) → IsTrue (list_all (λ other. nat_lt n other.id) xs) → (t : Held) → Contains xs t → n < t.id
less-members n [] all t among = absurd (none-in t among)
less-members n (x ∷ xs) all t among = elim (Contains-cons_cases x xs t among) [
  | inl later ↦ less-members n xs (grind (arith, nat_tests)) t later
  | inr e ↦ let same : t.id ≡ x.id = ap (λ (h : Held). h.id) e in grind (arith, nat_tests)
]

all-less : (n : ℕ) (xs : List Held) → ((t : Held) → Contains xs t → n < t.id) → IsTrue (list_all (λ other. nat_lt n other.id) xs)
all-less n [] less = refl
all-less n (x ∷ xs) less =
    let here = less x (Contains-here x xs) in
    let rest = all-less n xs (λ t among. less t (Contains-later x xs t among)) in
    grind (arith, nat_tests)

pub pairs-from_rising : (xs : List Held) → IsTrue (are_rising xs) → AllPairs below xs
pairs-from_rising [] rising = λ i j d lt short. absurd (omega arith)
pairs-from_rising (x ∷ xs) rising =
    let parts : IsTrue (list_all (λ other. nat_lt x.id other.id) xs) × IsTrue (are_rising xs) = (grind (arith, nat_tests), grind (arith, nat_tests)) in
    AllPairs-cons below x xs (all-from_members below (below x) xs (less-members x.id xs parts.0)) (pairs-from_rising xs parts.1)

pub rising-from_pairs : (xs : List Held) → AllPairs below xs → IsTrue (are_rising xs)
rising-from_pairs [] pairs = refl
rising-from_pairs (x ∷ xs) pairs =
    let head = all-less x.id xs (pairs-head below x xs pairs) in
    let tail = rising-from_pairs xs (pairs-tail below x xs pairs) in
    grind (arith, nat_tests)

-- two of one number are one
pub same-number : (xs : List Held) → AllPairs below xs → (t u : Held) → Contains xs t → Contains xs u → t.id ≡ u.id → t ≡ u
same-number [] pairs t u one other e = absurd (none-in t one)
same-number (x ∷ xs) pairs t u one other e = go (Contains-cons_cases x xs t one) (Contains-cons_cases x xs u other) (λ a b. same-number xs (pairs-tail below x xs pairs) t u a b e)
  where
    go : Contains xs t ⊎ (t ≡ x) → Contains xs u ⊎ (u ≡ x) → (Contains xs t → Contains xs u → t ≡ u) → t ≡ u
    go (inl a) (inl b) rest = rest a b
    go (inl a) (inr f) rest = let lt = pairs-head below x xs pairs t a in let same : u.id ≡ x.id = ap (λ (h : Held). h.id) f in absurd (omega arith)
    go (inr f) (inl b) rest = let lt = pairs-head below x xs pairs u b in let same : t.id ≡ x.id = ap (λ (h : Held). h.id) f in absurd (omega arith)
    go (inr f) (inr g) rest = f ∙ sym g

-- Members of lists: the only one, those that pass a test, the last one, and those behind the first so many.
use Rattle.std.proofs.Common.{◌≡◌, ◌⊎◌, inl, inr, ℕ, zero, suc, Bool, true, false, cond, List, [], ◌∷◌, Option, Some, None, Contains, drop, filter, reverse, refl, sym, ap, ◌∙◌, subst, arith}
use Rattle.std.specs.List.{last_or}
use Rattle.std.proofs.lemmas.List.{reverse-append}
use Rattle.std.proofs.lemmas.List.Elements.{Contains-append_cases}
use Rattle.mdl_system.proofs.MemberLemmas.{Contains-none}
use Rattle.mdl_system.proofs.OrderLemmas.{Contains-cons_cases, Contains-here, Contains-later}

-- the only one
pub only-one : {X : Type 0} (x y : X) → Contains (x ∷ []) y → y ≡ x
only-one x y among = elim (Contains-cons_cases x [] y among) [ inl nowhere ↦ absurd (Contains-none y nowhere) | inr same ↦ same ]

-- who passes a test is among those that do
pub filter-among : {X : Type 0} (p : X → Bool) (xs : List X) (x : X) → p x ≡ true → Contains xs x → Contains (filter p xs) x
filter-among p [] x passes among = absurd (Contains-none x among)
filter-among {X} p (y ∷ ys) x passes among = go (filter-among p ys x passes) (p y) refl (Contains-cons_cases y ys x among)
  where
    go : (Contains ys x → Contains (filter p ys) x) → (b : Bool) → p y ≡ b → Contains ys x ⊎ (x ≡ y) → Contains (cond b (y ∷ filter p ys) (filter p ys)) x
    go rest true e (inl later) = Contains-later y (filter p ys) x (rest later)
    go rest false e (inl later) = rest later
    go rest true e (inr same) = subst (λ z. Contains (y ∷ filter p ys) z) (sym same) (Contains-here y (filter p ys))
    go rest false e (inr same) = let z : true ≡ false = sym passes ∙ ap p same ∙ e in cc

-- and the other way round
pub among-filter : {X : Type 0} (p : X → Bool) (xs : List X) (x : X) → Contains (filter p xs) x → Contains xs x × (p x ≡ true)
among-filter p [] x among = absurd (Contains-none x among)
among-filter {X} p (y ∷ ys) x among = go (λ there. let h = among-filter p ys x there in (Contains-later y ys x h.0, h.1)) (p y) refl among
  where
    go : (Contains (filter p ys) x → Contains (y ∷ ys) x × (p x ≡ true)) → (b : Bool) → p y ≡ b → Contains (cond b (y ∷ filter p ys) (filter p ys)) x
        → Contains (y ∷ ys) x × (p x ≡ true)
    go later false e there = later there
    go later true e there = elim (Contains-cons_cases y (filter p ys) x there) [
      | inl behind ↦ later behind
      | inr same ↦ (subst (λ z. Contains (y ∷ ys) z) (sym same) (Contains-here y ys), ap p same ∙ e)
    ]

-- who is in a list read backwards is in the list
pub among-reverse : {X : Type 0} (xs : List X) (x : X) → Contains (reverse xs) x → Contains xs x
among-reverse [] x among = among
among-reverse (y ∷ ys) x among = elim (Contains-append_cases (reverse ys) (y ∷ []) x (subst (λ zs. Contains zs x) (reverse-append (y ∷ []) ys) among)) [
  | inl later ↦ Contains-later y ys x (among-reverse ys x later)
  | inr first ↦ subst (λ z. Contains (y ∷ ys) z) (sym (only-one y x first)) (Contains-here y ys)
]

-- the last item is among them
last-from : {X : Type 0} (first : Option X) (xs : List X) (x : X) → last_or first xs ≡ Some x → (first ≡ Some x) ⊎ Contains xs x
last-from first [] x e = inl e
last-from first (y ∷ ys) x e = elim (last-from (Some y) ys x e) [
  | inl here ↦ (let same : y ≡ x = cc in inr (subst (λ z. Contains (y ∷ ys) z) same (Contains-here y ys)))
  | inr later ↦ inr (Contains-later y ys x later)
]

pub last-among : {X : Type 0} (xs : List X) (x : X) → last_or None xs ≡ Some x → Contains xs x
last-among xs x e = elim (last-from None xs x e) [ inl nothing ↦ cc | inr among ↦ among ]

-- ---- behind the first so many

drop-less : {X : Type 0} (most : ℕ) (xs : List X) (x : X) → Contains (drop (suc most) xs) x → Contains (drop most xs) x
drop-less zero [] x among = among
drop-less (suc most) [] x among = among
drop-less zero (y ∷ ys) x among = Contains-later y ys x among
drop-less (suc most) (y ∷ ys) x among = drop-less most ys x among

-- where some are left out, no others come behind them
drop-left : {X : Type 0} (most : ℕ) (p : X → Bool) (xs : List X) (x : X) → Contains (drop most (filter p xs)) x → Contains (drop most xs) x
drop-left most p [] x among = among
drop-left zero p (y ∷ ys) x among = (among-filter p (y ∷ ys) x among).0
drop-left (suc most) p (y ∷ ys) x among =
    elim (p y) as (λ b. Contains (drop (suc most) (cond b (y ∷ filter p ys) (filter p ys))) x → Contains (drop most ys) x) [
      | true ↦ λ there. drop-left most p ys x there
      | false ↦ λ there. drop-less most ys x (drop-left (suc most) p ys x there)
    ] among

filters-swap : {X : Type 0} (p q : X → Bool) (xs : List X) → filter p (filter q xs) ≡ filter q (filter p xs)
filters-swap p q [] = refl
filters-swap p q (x ∷ xs) = grind (arith, filters-swap p q xs)

pub drop-fewer : {X : Type 0} (most : ℕ) (p q : X → Bool) (xs : List X) (x : X) → Contains (drop most (filter p (filter q xs))) x
    → Contains (drop most (filter p xs)) x
drop-fewer most p q xs x among = drop-left most q (filter p xs) x (subst (λ zs. Contains (drop most zs) x) (filters-swap p q xs) among)

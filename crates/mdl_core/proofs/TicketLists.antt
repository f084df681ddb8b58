-- Lists of distinct tickets in one another, and lists in order with the same members.
use Rattle.std.proofs.Common.{◌≡◌, ◌≢◌, ◌⊎◌, ◌↔◌, suc, ◌+◌, ◌≤◌, inl, inr, List, [], ◌∷◌, ◌++◌, length, refl, sym, ap, subst, ◌∙◌, arith}
use Rattle.std.specs.Prelude.{AllPairs, Contains}
use Rattle.std.proofs.lemmas.List.{length-append}
use Rattle.mdl_calls.specs.declared.answers.Held.{Held}
use Rattle.mdl_core.proofs.PairLemmas.{none-in, below, pairs-head, pairs-tail}
use Rattle.mdl_system.proofs.OrderLemmas.{Contains-cons_cases, Contains-here, Contains-later, around_cases, within}

-- a list around one of its members
split : {T : Type 0} (xs : List T) (x : T) → Contains xs x → (before : List T) × (after : List T) × (xs ≡ before ++ x ∷ after)
split [] x among = absurd (none-in x among)
split (y ∷ ys) x among = elim (Contains-cons_cases y ys x among) [
  | inl later ↦ let parts = split ys x later in (y ∷ parts.0, parts.1, ap (λ zs. y ∷ zs) parts.2)
  | inr same ↦ ([], ys, λ i. sym same i ∷ ys)
]

-- distinct members of a list are no more than it has
pub at_most : {T : Type 0} (xs ys : List T) → AllPairs (λ one other. one ≢ other) xs → ((x : T) → Contains xs x → Contains ys x) → length xs ≤ length ys
at_most [] ys distinct all = omega arith
at_most {T} (x ∷ xs) ys distinct all =
    let parts = split ys x (all x (Contains-here x xs)) in
    let rest : (y : T) → Contains xs y → Contains (parts.0 ++ parts.1) y = λ y among.
    elim (around_cases parts.0 parts.1 x y (within ys (parts.0 ++ x ∷ parts.1) y parts.2 (all y (Contains-later x xs y among)))) [
      | inl other ↦ other
      | inr same ↦ absurd (pairs-head (λ one other. one ≢ other) x xs distinct y among (sym same))
    ] in
    let fewer = at_most xs (parts.0 ++ parts.1) (pairs-tail (λ one other. one ≢ other) x xs distinct) rest in
    let whole : length ys ≡ length parts.0 + suc (length parts.1) = ap length parts.2 ∙ length-append parts.0 (x ∷ parts.1) in
    let without : length (parts.0 ++ parts.1) ≡ length parts.0 + length parts.1 = length-append parts.0 parts.1 in
    omega arith

-- lists in one order, in which no member comes before itself, are one where they have the same members
pub same-ordered : {T : Type 0} (R : T → T → Type 0) → ((x y : T) → R x y → R y x → ⊥) → (xs ys : List T) → AllPairs R xs → AllPairs R ys
    → ((t : T) → Contains xs t ↔ Contains ys t) → xs ≡ ys
same-ordered R never [] [] rises climbs same = refl
same-ordered R never [] (y ∷ ys) rises climbs same = absurd (none-in y ((same y).1 (Contains-here y ys)))
same-ordered R never (x ∷ xs) [] rises climbs same = absurd (none-in x ((same x).0 (Contains-here x xs)))
same-ordered {T} R never (x ∷ xs) (y ∷ ys) rises climbs same =
    let rest = same-ordered R never xs ys (pairs-tail R x xs rises) (pairs-tail R y ys climbs) (λ t. (there t, back t)) in
    λ i. first i ∷ rest i
  where
    heads : Contains ys x ⊎ (x ≡ y) → Contains xs y ⊎ (y ≡ x) → x ≡ y
    heads (inr e) other = e
    heads (inl one) (inr e) = sym e
    heads (inl one) (inl other) = absurd (never x y (pairs-head R x xs rises y other) (pairs-head R y ys climbs x one))

    first : x ≡ y
    first = heads (Contains-cons_cases y ys x ((same x).0 (Contains-here x xs))) (Contains-cons_cases x xs y ((same y).1 (Contains-here y ys)))

    there : (t : T) → Contains xs t → Contains ys t
    there t among = elim (Contains-cons_cases y ys t ((same t).0 (Contains-later x xs t among))) [
      | inl later ↦ later
      | inr e ↦ absurd (let here : R x x = subst (R x) (e ∙ sym first) (pairs-head R x xs rises t among) in never x x here here)
    ]

    back : (t : T) → Contains ys t → Contains xs t
    back t among = elim (Contains-cons_cases x xs t ((same t).1 (Contains-later y ys t among))) [
      | inl later ↦ later
      | inr e ↦ absurd (let here : R y y = subst (R y) (e ∙ first) (pairs-head R y ys climbs t among) in never y y here here)
    ]

-- lists of rising numbers with the same members are one
pub same-rising : (xs ys : List Held) → AllPairs below xs → AllPairs below ys → ((t : Held) → Contains xs t ↔ Contains ys t) → xs ≡ ys
same-rising = same-ordered below (λ x y lt gt. omega arith)

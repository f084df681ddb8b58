-- The members of a list: what maps, joins and filters keep.
use Rattle.std.proofs.Common.{◌≡◌, ℕ, ◌<◌, zero, suc, Bool, true, false, List, [], ◌∷◌, ◌++◌, length, map, cond, refl, sym, ap, ◌∙◌, ◌⊎◌, inl, inr, arith, slice_index_or}
use Rattle.std.specs.Prelude.{filter, flat_map}
use Rattle.std.specs.List.{Contains}
use Rattle.mdl_graph.specs.Members.{Among}

pub among_left : {X : Type 0} (x : X) (xs ys : List X) → Among x xs → Among x (xs ++ ys)
among_left x [] ys among = absurd among
among_left x (y ∷ xs) ys (inl same) = inl same
among_left x (y ∷ xs) ys (inr later) = inr (among_left x xs ys later)

pub among_right : {X : Type 0} (x : X) (xs ys : List X) → Among x ys → Among x (xs ++ ys)
among_right x [] ys among = among
among_right x (y ∷ xs) ys among = inr (among_right x xs ys among)

pub among_map : {X Y : Type 0} (f : X → Y) (x : X) (xs : List X) → Among x xs → Among (f x) (map f xs)
among_map f x [] among = absurd among
among_map f x (y ∷ xs) (inl same) = inl (ap f same)
among_map f x (y ∷ xs) (inr later) = inr (among_map f x xs later)

pub among_flat_map : {X Y : Type 0} (f : X → List Y) (x : X) (y : Y) (xs : List X) → Among x xs → Among y (f x) → Among y (flat_map f xs)
among_flat_map f x y [] among here = absurd among
among_flat_map f x y (z ∷ xs) (inl same) here = among_left y (f z) (flat_map f xs) (rw (← same) here)
among_flat_map f x y (z ∷ xs) (inr later) here = among_right y (f z) (flat_map f xs) (among_flat_map f x y xs later here)

pub among_filter : {X : Type 0} (test : X → Bool) (x : X) (xs : List X) → Among x xs → test x ≡ true → Among x (filter test xs)
among_filter test x [] among passes = absurd among
among_filter test x (y ∷ xs) (inl same) passes = rw (sym (ap test same) ∙ passes) (inl same)
among_filter test x (y ∷ xs) (inr later) passes =
    elim (test y) as (λ b. Among x (cond b (y ∷ filter test xs) (filter test xs))) [
      | true ↦ inr (among_filter test x xs later passes)
      | false ↦ among_filter test x xs later passes
    ]

pub among_filtered : {X : Type 0} (test : X → Bool) (x : X) (xs : List X) → Among x (filter test xs) → Among x xs × (test x ≡ true)
among_filtered test x [] among = absurd among
among_filtered test x (y ∷ xs) among =
    elim (test y) as (λ b. test y ≡ b → Among x (cond b (y ∷ filter test xs) (filter test xs)) → Among x (y ∷ xs) × (test x ≡ true)) [
      | true ↦ λ e found. elim found [
        | inl same ↦ (inl same, ap test same ∙ e)
        | inr later ↦ let rest = among_filtered test x xs later in (inr rest.0, rest.1)
      ]
      | false ↦ λ e found. let rest = among_filtered test x xs found in (inr rest.0, rest.1)
    ] refl among

pub mapped : {X Y : Type 0} (f : X → Y) (y : Y) (xs : List X) → Among y (map f xs) → (x : X) × Among x xs × (y ≡ f x)
mapped f y [] among = absurd among
mapped f y (x ∷ xs) (inl same) = (x, inl refl, same)
mapped f y (x ∷ xs) (inr later) = let rest = mapped f y xs later in (rest.0, inr rest.1, rest.2)

pub appended : {X : Type 0} (x : X) (xs ys : List X) → Among x (xs ++ ys) → Among x xs ⊎ Among x ys
appended x [] ys among = inr among
appended x (y ∷ xs) ys (inl same) = inl (inl same)
appended x (y ∷ xs) ys (inr later) = elim (appended x xs ys later) [ inl left ↦ inl (inr left) | inr right ↦ inr right ]

pub flat_mapped : {X Y : Type 0} (f : X → List Y) (y : Y) (xs : List X) → Among y (flat_map f xs) → (x : X) × Among x xs × Among y (f x)
flat_mapped f y [] among = absurd among
flat_mapped f y (x ∷ xs) among = elim (appended y (f x) (flat_map f xs) among) [
  | inl here ↦ (x, inl refl, here)
  | inr later ↦ let rest = flat_mapped f y xs later in (rest.0, inr rest.1, rest.2)
]

-- the same as `Contains`
pub contained : {X : Type 0} (xs : List X) (x : X) → Among x xs → Contains xs x
contained [] x among = absurd among
contained (y ∷ ys) x (inl same) = (0, omega arith, sym same)
contained (y ∷ ys) x (inr later) = let place = contained ys x later in (suc place.0, omega (arith, place.1), place.2)

among_at : {X : Type 0} (xs : List X) (x : X) (k : ℕ) → k < length xs → slice_index_or xs k x ≡ x → Among x xs
among_at [] x k inside here = absurd (omega (arith, inside))
among_at (y ∷ ys) x zero inside here = inl (sym here)
among_at (y ∷ ys) x (suc k) inside here = inr (among_at ys x k (omega (arith, inside)) here)

pub among_these : {X : Type 0} (xs : List X) (x : X) → Contains xs x → Among x xs
among_these xs x place = among_at xs x place.0 place.1 place.2

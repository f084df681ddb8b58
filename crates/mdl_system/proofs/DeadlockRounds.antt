-- A deadlock goes round: each session that is part of it can be the first.
use Rattle.std.proofs.Common.{◌≡◌, ◌≢◌, ℕ, ◌==◌, inl, inr, List, [], ◌∷◌, ◌++◌, refl, sym, ap, subst, ◌∙◌}
use Rattle.std.specs.Prelude.{Contains, AllPairs}
use Rattle.std.proofs.lemmas.Bool.Decides.{Decides-eqb, Decides-like, same_from_decides}
use Rattle.std.proofs.lemmas.List.Sorted.{IsPermutation-append_comm}
use Rattle.std.proofs.lemmas.Map.Keys.{IsDistinct-IsPermutation}
use Rattle.std.proofs.lemmas.Map.Made.{AllPairs-from_IsDistinct, IsDistinct-from_AllPairs}
use Rattle.mdl_system.specs.Deadlocks.{WaitsFor, Leads, IsDeadlock}
use Rattle.mdl_system.specs.Systems.{System}
use Rattle.mdl_system.proofs.MemberLemmas.{Contains-none}
use Rattle.mdl_system.proofs.OrderLemmas.{Contains-cons_cases}

split-member : (xs : List ℕ) (x : ℕ) → Contains xs x → (before : List ℕ) × (after : List ℕ) × (xs ≡ before ++ x ∷ after)
split-member [] x among = absurd (Contains-none x among)
split-member (y ∷ ys) x among = elim (Contains-cons_cases y ys x among) [
  | inl later ↦ let h = split-member ys x later in (y ∷ h.0, h.1, ap (λ zs. y ∷ zs) h.2)
  | inr e ↦ ([], ys, ap (λ z. z ∷ ys) (sym e))
]

leads-split : (Waits : ℕ → ℕ → Type 0) (target session : ℕ) (xs : List ℕ) (x : ℕ) (ys : List ℕ) → Leads Waits target session (xs ++ x ∷ ys)
    → Leads Waits x session xs × Leads Waits target x ys
leads-split Waits target session [] x ys (first, later) = (first, later)
leads-split Waits target session (next ∷ xs) x ys (first, later) = let h = leads-split Waits target next xs x ys later in ((first, h.0), h.1)

leads-join : (Waits : ℕ → ℕ → Type 0) (target session : ℕ) (xs : List ℕ) (x : ℕ) (ys : List ℕ) → Leads Waits x session xs → Leads Waits target x ys
    → Leads Waits target session (xs ++ x ∷ ys)
leads-join Waits target session [] x ys first later = (first, later)
leads-join Waits target session (next ∷ xs) x ys (first, rest) later = (first, leads-join Waits target next xs x ys rest later)

equal-both_ways : (x y : ℕ) → (x == y) ≡ (y == x)
equal-both_ways x y = same_from_decides (x == y) (y == x) (Decides-eqb x y) (Decides-like (y == x) sym sym (Decides-eqb y x))

distinct-swap : (xs ys : List ℕ) → AllPairs (λ one other. one ≢ other) (xs ++ ys) → AllPairs (λ one other. one ≢ other) (ys ++ xs)
distinct-swap xs ys apart =
    AllPairs-from_IsDistinct Decides-eqb (ys ++ xs)
    (IsDistinct-IsPermutation (λ x y. x == y) equal-both_ways (xs ++ ys) (ys ++ xs) (IsPermutation-append_comm xs ys)
    (IsDistinct-from_AllPairs Decides-eqb (xs ++ ys) apart))

pub deadlock-of_member : {D : Type 0} (system : System D) (from : ℕ) (cycle : List ℕ) → IsDeadlock system from cycle
    → (member : ℕ) → Contains cycle member → (other : List ℕ) × IsDeadlock system member other
deadlock-of_member {D} system from cycle (rest, same, distinct, leading) member among =
    let h = split-member cycle member among in
    go h.0 h.1 rest (sym h.2 ∙ same) (subst (λ c. AllPairs (λ one other. one ≢ other) c) same distinct) leading
  where
    go : (before after rest : List ℕ) → before ++ member ∷ after ≡ from ∷ rest → AllPairs (λ one other. one ≢ other) (from ∷ rest)
        → Leads (WaitsFor system) from from rest → (other : List ℕ) × IsDeadlock system member other
    go [] after rest e apart leads =
        let first : from ≡ member = cc in
        let is : IsDeadlock system from (from ∷ rest) = (rest, refl, apart, leads) in
        (from ∷ rest, subst (λ n. IsDeadlock system n (from ∷ rest)) first is)
    go (first ∷ before) after rest e apart leads =
        let here : rest ≡ before ++ member ∷ after = cc in
        let parts = leads-split (WaitsFor system) from from before member after (subst (λ xs. Leads (WaitsFor system) from from xs) here leads) in (
          member ∷ after ++ from ∷ before,
          (
            after ++ from ∷ before,
            refl,
            distinct-swap (from ∷ before) (member ∷ after) (subst (λ xs. AllPairs (λ one other. one ≢ other) (from ∷ xs)) here apart),
            leads-join (WaitsFor system) member member after from before parts.1 parts.0,
          ),
        )

-- Spans of places that have all pairs of a row.
use Rattle.std.proofs.Common.{◌≡◌, ℕ, zero, suc, ◌≤◌, ◌<◌, ◌+◌, ◌-◌, Bool, true, false, [], ◌∷◌, ◌++◌, length, take, drop, refl, sym, subst, ◌∙◌, arith, ◌≢◌, get_or}
use Rattle.std.specs.Prelude.{◌&&◌, ◌||◌, ◌==◌}
use Rattle.std.specs.List.{list_any}
use Rattle.std.proofs.lemmas.Bool.{and_parts, eqb-true, eq-eqb, ne_eqb}
use Rattle.std.proofs.lemmas.List.Folds.{list_any-append}
use Rattle.mdl_graph.specs.Searches.{Pairs, AreSpanned, holds, key_at, value_at}

-- ---- what a test of some pair comes to within a span

no_more : (b rest : Bool) → b ≡ false → rest ≡ false → (b || rest) ≡ false
no_more b rest none none_later = rw (none, none_later) refl

fails : (b : Bool) → (b ≡ true → ⊥) → b ≡ false
fails true none = absurd (none refl)
fails false none = refl

none_passes : (test : ℕ × ℕ → Bool) (xs : Pairs) → ((place : ℕ) → place < length xs → test (get_or xs place (0, 0)) ≡ true → ⊥) → list_any test xs ≡ false
none_passes test [] none = refl
none_passes test (x ∷ xs) none =
    no_more (test x) (list_any test xs) (fails (test x) (none 0 (omega arith)))
    (none_passes test xs (λ place inside. none (suc place) (omega (arith, inside))))

same_later : (b : Bool) (one other : Bool) → one ≡ other → (b || one) ≡ (b || other)
same_later b one other same = rw same refl

-- where all that passes stands in a span, it is found there
any_within : (test : ℕ × ℕ → Bool) (xs : Pairs) (first count : ℕ)
    → ((place : ℕ) → place < length xs → test (get_or xs place (0, 0)) ≡ true → (first ≤ place) × (place < first + count))
    → list_any test (take count (drop first xs)) ≡ list_any test xs
any_within test [] first zero near = refl
any_within test [] zero (suc count) near = refl
any_within test [] (suc first) (suc count) near = refl
any_within test (x ∷ xs) zero zero near =
    sym (none_passes test (x ∷ xs) (λ place inside passes. absurd (omega (arith, (near place inside passes).1))))
any_within test (x ∷ xs) zero (suc count) near =
    same_later (test x) (list_any test (take count xs)) (list_any test xs)
    (any_within test xs zero count (λ place inside passes. (omega arith, omega (arith, (near (suc place) (omega (arith, inside)) passes).1))))
any_within test (x ∷ xs) (suc first) count near =
    let off : test x ≡ false = fails (test x) (λ passes. absurd (omega (arith, (near 0 (omega arith) passes).0))) in
    any_within test xs first count
    (λ place inside passes. let at = near (suc place) (omega (arith, inside)) passes in (omega (arith, at.0), omega (arith, at.1)))
    ∙ rw off refl

-- a row's pairs are those of its span
pub span_holds : (spans pairs : Pairs) → AreSpanned spans pairs → (row session : ℕ)
    → holds (take (value_at spans row - key_at spans row) (drop (key_at spans row) pairs)) row session ≡ holds pairs row session
span_holds spans pairs spanned row session =
    any_within (λ pair. pair.0 == row && pair.1 == session) pairs (key_at spans row) (value_at spans row - key_at spans row)
    (λ place inside passes.
    let key : key_at pairs place ≡ row = eqb-true (key_at pairs place) row (and_parts (key_at pairs place == row) (value_at pairs place == session) passes).0 in
    let at : (key_at spans row ≤ place) × (place < value_at spans row) =
    subst (λ (r : ℕ). (key_at spans r ≤ place) × (place < value_at spans r)) key (spanned.all place inside) in
    (at.0, omega (arith, at.0, at.1)))

-- a row without a span has none
pub span_none : (spans pairs : Pairs) → AreSpanned spans pairs → (row session : ℕ) → value_at spans row ≡ 0 → holds pairs row session ≡ false
span_none spans pairs spanned row session none =
    none_passes (λ pair. pair.0 == row && pair.1 == session) pairs
    (λ place inside passes.
    let key : key_at pairs place ≡ row = eqb-true (key_at pairs place) row (and_parts (key_at pairs place == row) (value_at pairs place == session) passes).0 in
    let at : (key_at spans row ≤ place) × (place < value_at spans row) =
    subst (λ (r : ℕ). (key_at spans r ≤ place) × (place < value_at spans r)) key (spanned.all place inside) in
    absurd (omega (arith, at.1, none)))

-- ---- one pair more

swapped : (a b : Bool) → (a || (b || false)) ≡ (b || a)
swapped true true = refl
swapped true false = refl
swapped false true = refl
swapped false false = refl

same_without : (a : Bool) → (a || false) ≡ a
same_without true = refl
same_without false = refl

-- one that waits in the row
pub holds_here : (pairs : Pairs) (pair : ℕ × ℕ) (row session : ℕ) → pair.0 ≡ row
    → holds (pairs ++ pair ∷ []) row session ≡ ((pair.1 == session) || holds pairs row session)
holds_here pairs pair row session same =
    list_any-append (λ (p : ℕ × ℕ). p.0 == row && p.1 == session) pairs (pair ∷ [])
    ∙ rw (eq-eqb pair.0 row same) (swapped (holds pairs row session) (pair.1 == session))

-- one that waits elsewhere
pub holds_else : (pairs : Pairs) (pair : ℕ × ℕ) (row session : ℕ) → (pair.0 ≢ row) → holds (pairs ++ pair ∷ []) row session ≡ holds pairs row session
holds_else pairs pair row session apart =
    list_any-append (λ (p : ℕ × ℕ). p.0 == row && p.1 == session) pairs (pair ∷ [])
    ∙ rw (ne_eqb pair.0 row apart) (same_without (holds pairs row session))

-- A cycle's test, told by facts of its places.
use Rattle.std.proofs.Common.{◌≡◌, ◌≢◌, ℕ, zero, suc, ◌+◌, ◌<◌, ◌%◌, Bool, true, not, ◌&&◌, List, [], ◌∷◌, ◌++◌, length, get_or, ◌↔◌, refl, sym, ap, subst, ◌∙◌, inl, inr, arith}
use Rattle.std.specs.Prelude.{◌==◌, IsTrue, AllPairs}
use Rattle.std.specs.List.{list_any}
use Rattle.std.proofs.Math.Nat.{mod-eq_of_lt, mod_self}
use Rattle.std.proofs.Math.Seq.{get_or-append_seam}
use Rattle.std.proofs.lemmas.Bool.{and_parts, and_from, not-true, not_from_false, eqb-true, eq-eqb, ne_eqb, false≢true, cases_lt}
use Rattle.std.proofs.lemmas.List.{get_or_append_left}
use Rattle.std.proofs.lemmas.List.Folds.{list_any_at, list_any_none}
use Rattle.mdl_graph.specs.Cycles.{leads, are_distinct, IsCycleThrough}
use Rattle.mdl_graph.specs.GraphLaws.{IsRound}

-- ---- no session twice

apart : (xs : List ℕ) → are_distinct xs ≡ true → AllPairs (λ one other. one ≢ other) xs
apart [] distinct i j d before inside = absurd (omega (arith, inside))
apart (x ∷ xs) distinct i zero d before inside = absurd (omega (arith, before))
apart (x ∷ xs) distinct zero (suc j) d before inside = λ same.
    let parts = and_parts (not (list_any (λ other. x == other) xs)) (are_distinct xs) distinct in
    false≢true (sym (not-true (list_any (λ other. x == other) xs) parts.0)
    ∙ list_any_at (λ (other : ℕ). x == other) xs j d (omega (arith, inside)) (eq-eqb x (get_or xs j d) same))
apart (x ∷ xs) distinct (suc i) (suc j) d before inside =
    apart xs (and_parts (not (list_any (λ other. x == other) xs)) (are_distinct xs) distinct).1 i j d (omega (arith, before)) (omega (arith, inside))

from_apart : (xs : List ℕ) → AllPairs (λ one other. one ≢ other) xs → are_distinct xs ≡ true
from_apart [] pairs = refl
from_apart (x ∷ xs) pairs =
    and_from (not (list_any (λ other. x == other) xs)) (are_distinct xs)
    (not_from_false (list_any (λ other. x == other) xs)
    (list_any_none (λ (other : ℕ). x == other) xs (λ k d inside. ne_eqb x (get_or xs k d) (pairs 0 (suc k) d (omega arith) (omega (arith, inside))))))
    (from_apart xs (λ i j d before inside. pairs (suc i) (suc j) d (omega (arith, before)) (omega (arith, inside))))

-- ---- each waits for the next

-- the session that stands after a place of a list whose first one was taken off, and the target after the last one
abbrev next_of : ℕ → ℕ → List ℕ → ℕ
next_of target i rest = get_or (rest ++ target ∷ []) i 0

each_leads : (waits : ℕ → ℕ → Bool) (target session : ℕ) (rest : List ℕ) → leads waits target session rest ≡ true
    → (i : ℕ) → i < length (session ∷ rest) → waits (get_or (session ∷ rest) i 0) (next_of target i rest) ≡ true
each_leads waits target session [] leading zero inside = leading
each_leads waits target session [] leading (suc i) inside = absurd (omega (arith, inside))
each_leads waits target session (next ∷ rest) leading zero inside = (and_parts (waits session next) (leads waits target next rest) leading).0
each_leads waits target session (next ∷ rest) leading (suc i) inside =
    each_leads waits target next rest (and_parts (waits session next) (leads waits target next rest) leading).1 i (omega (arith, inside))

from_each : (waits : ℕ → ℕ → Bool) (target session : ℕ) (rest : List ℕ)
    → ((i : ℕ) → i < length (session ∷ rest) → waits (get_or (session ∷ rest) i 0) (next_of target i rest) ≡ true)
    → leads waits target session rest ≡ true
from_each waits target session [] each = each 0 (omega arith)
from_each waits target session (next ∷ rest) each =
    and_from (waits session next) (leads waits target next rest) (each 0 (omega arith))
    (from_each waits target next rest (λ i inside. each (suc i) (omega (arith, inside))))

-- that is the next one, or the first after the last
next_is : (first : ℕ) (rest : List ℕ) (i : ℕ) → i < length (first ∷ rest)
    → next_of first i rest ≡ get_or (first ∷ rest) ((i + 1) % length (first ∷ rest)) 0
next_is first rest i inside = elim (cases_lt (suc i) (length (first ∷ rest))) [
  | inl below ↦
      let place : (i + 1) % length (first ∷ rest) ≡ suc i = ap (λ (k : ℕ). k % length (first ∷ rest)) (omega arith) ∙ mod-eq_of_lt below in
      get_or_append_left rest (first ∷ []) 0 i (omega (arith, below)) ∙ ap (λ (k : ℕ). get_or (first ∷ rest) k 0) (sym place)
  | inr above ↦
      let last : i ≡ length rest = omega (arith, above, inside) in
      let place : (i + 1) % length (first ∷ rest) ≡ 0 =
      ap (λ (k : ℕ). k % length (first ∷ rest)) (omega (arith, last)) ∙ mod_self (length (first ∷ rest)) in
      ap (λ (k : ℕ). next_of first k rest) last ∙ get_or-append_seam rest first [] 0 ∙ ap (λ (k : ℕ). get_or (first ∷ rest) k 0) (sym place)
]

pub rounds_by : (waits : ℕ → ℕ → Bool) (from : ℕ) (cycle : List ℕ)
    → IsCycleThrough waits from cycle ↔ IsRound (λ one other. IsTrue (waits one other)) from cycle
rounds_by waits from [] = (λ e. absurd (false≢true e), λ round. absurd (omega (arith, round.begins.0)))
rounds_by waits from (first ∷ rest) = (told, tells) where
  told : IsCycleThrough waits from (first ∷ rest) → IsRound (λ one other. IsTrue (waits one other)) from (first ∷ rest)
  told e =
      let parts = and_parts (first == from && are_distinct (first ∷ rest)) (leads waits from first rest) e in
      let begun = and_parts (first == from) (are_distinct (first ∷ rest)) parts.0 in
      let same : first ≡ from = eqb-true first from begun.0 in
      let leading : leads waits first first rest ≡ true = subst (λ (to : ℕ). leads waits to first rest ≡ true) (sym same) parts.1 in
      record {
        begins = (omega arith, same);
        distinct = apart (first ∷ rest) begun.1;
        round = λ i inside. subst (λ (to : ℕ). waits (get_or (first ∷ rest) i 0) to ≡ true) (next_is first rest i inside)
            (each_leads waits first first rest leading i inside);
      }

  tells : IsRound (λ one other. IsTrue (waits one other)) from (first ∷ rest) → IsCycleThrough waits from (first ∷ rest)
  tells round =
      let same : first ≡ from = round.begins.1 in
      let leading : leads waits first first rest ≡ true = from_each waits first first rest
      (λ i inside. subst (λ (to : ℕ). waits (get_or (first ∷ rest) i 0) to ≡ true) (sym (next_is first rest i inside)) (round.round i inside)) in
      and_from (first == from && are_distinct (first ∷ rest)) (leads waits from first rest)
      (and_from (first == from) (are_distinct (first ∷ rest)) (eq-eqb first from same) (from_apart (first ∷ rest) round.distinct))
      (subst (λ (to : ℕ). leads waits to first rest ≡ true) same leading)

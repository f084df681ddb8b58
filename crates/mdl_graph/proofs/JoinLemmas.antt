-- Who waits for whom, by rows.
use Rattle.std.proofs.Common.{◌≡◌, ◌≤◌, ◌<◌, ℕ, suc, inl, inr, Bool, true, false, [], ◌∷◌, ◌++◌, map, refl, sym, subst, ◌∙◌, arith}
use Rattle.std.specs.Prelude.{not, ◌&&◌, ◌||◌, ◌==◌, filter}
use Rattle.std.specs.List.{list_any}
use Rattle.std.proofs.lemmas.Bool.{and_parts, and_from, eqb-true, eq-eqb}
use Rattle.std.proofs.lemmas.Bool.Decides.{nat_tests}
use Rattle.std.proofs.lemmas.List.Folds.{Any-from_list_any, list_any-from_Any, list_any-append}
use Rattle.std.proofs.lemmas.Bool.{cases_lt, false≢true}
use Rattle.std.proofs.lemmas.List.Folds.{list_any_at}
use Rattle.mdl_graph.specs.Searches.{Pairs, AreBelow, AreRows, holds, are_joined, key_at, ties_of, value_at, waits_by, waits_in}

both_ways : (a b : Bool) → (a ≡ true → b ≡ true) → (b ≡ true → a ≡ true) → a ≡ b
both_ways true b to from = sym (to refl)
both_ways false true to from = from refl
both_ways false false to from = refl

-- the pairs of one who waits
one_joins : (row session : ℕ) (stands : Pairs) (waiter other : ℕ)
    → list_any (λ (tie : ℕ × ℕ). tie.0 == waiter && tie.1 == other) (map (λ (stand : ℕ × ℕ). (session, stand.0)) (filter (λ stand. stand.1 == row && not (session == stand.0)) stands))
    ≡ (session == waiter && (not (session == other) && holds stands other row))
one_joins row session [] waiter other = grind (arith, nat_tests)
one_joins row session (stand ∷ stands) waiter other = grind (arith, nat_tests, one_joins row session stands waiter other)

-- a graph's pairs say what its rows do
pub ties_join : (waits stands : Pairs) (waiter other : ℕ)
    → list_any (λ (tie : ℕ × ℕ). tie.0 == waiter && tie.1 == other) (ties_of waits stands) ≡ are_joined waits stands waiter other
ties_join [] stands waiter other = refl
ties_join (wait ∷ waits) stands waiter other =
    list_any-append (λ (tie : ℕ × ℕ). tie.0 == waiter && tie.1 == other)
    (map (λ (stand : ℕ × ℕ). (wait.1, stand.0)) (filter (λ stand. stand.1 == wait.0 && not (wait.1 == stand.0)) stands)) (ties_of waits stands)
    ∙ rw (one_joins wait.0 wait.1 stands waiter other, ties_join waits stands waiter other) refl

-- the same from those who stand against a row on
pub joined_by : (waits stands : Pairs) (waiter other : ℕ) → are_joined waits stands waiter other ≡ waits_by waits stands waiter other
joined_by waits stands waiter other = both_ways (are_joined waits stands waiter other) (waits_by waits stands waiter other)
    (λ joined.
    let wait = Any-from_list_any (λ (w : ℕ × ℕ). w.1 == waiter && (not (w.1 == other) && holds stands other w.0)) waits joined in
    let parts = and_parts (wait.1.1 == waiter) (not (wait.1.1 == other) && holds stands other wait.1.0) wait.4 in
    let apart = and_parts (not (wait.1.1 == other)) (holds stands other wait.1.0) parts.1 in
    let same : wait.1.1 ≡ waiter = eqb-true wait.1.1 waiter parts.0 in
    let stand = Any-from_list_any (λ (s : ℕ × ℕ). s.0 == other && s.1 == wait.1.0) stands apart.1 in
    let stand_parts = and_parts (stand.1.0 == other) (stand.1.1 == wait.1.0) stand.4 in
    let row : wait.1.0 ≡ stand.1.1 = sym (eqb-true stand.1.1 wait.1.0 stand_parts.1) in
    list_any-from_Any (λ (s : ℕ × ℕ). s.0 == other && waits_in waits s.1 other waiter) stands (
      stand.0,
      stand.1,
      stand.2,
      stand.3,
      and_from (stand.1.0 == other) (waits_in waits stand.1.1 other waiter) stand_parts.0
          (and_from (not (waiter == other)) (holds waits stand.1.1 waiter) (subst (λ (s : ℕ). not (s == other) ≡ true) same apart.0)
          (list_any-from_Any (λ (w : ℕ × ℕ). w.0 == stand.1.1 && w.1 == waiter) waits (
            wait.0,
            wait.1,
            wait.2,
            wait.3,
            and_from (wait.1.0 == stand.1.1) (wait.1.1 == waiter) (eq-eqb wait.1.0 stand.1.1 row) parts.0,
          ))),
    ))
    (λ by.
    let stand = Any-from_list_any (λ (s : ℕ × ℕ). s.0 == other && waits_in waits s.1 other waiter) stands by in
    let parts = and_parts (stand.1.0 == other) (waits_in waits stand.1.1 other waiter) stand.4 in
    let apart = and_parts (not (waiter == other)) (holds waits stand.1.1 waiter) parts.1 in
    let wait = Any-from_list_any (λ (w : ℕ × ℕ). w.0 == stand.1.1 && w.1 == waiter) waits apart.1 in
    let wait_parts = and_parts (wait.1.0 == stand.1.1) (wait.1.1 == waiter) wait.4 in
    let row : stand.1.1 ≡ wait.1.0 = sym (eqb-true wait.1.0 stand.1.1 wait_parts.0) in
    let same : waiter ≡ wait.1.1 = sym (eqb-true wait.1.1 waiter wait_parts.1) in
    list_any-from_Any (λ (w : ℕ × ℕ). w.1 == waiter && (not (w.1 == other) && holds stands other w.0)) waits (
      wait.0,
      wait.1,
      wait.2,
      wait.3,
      and_from (wait.1.1 == waiter) (not (wait.1.1 == other) && holds stands other wait.1.0) wait_parts.1
          (and_from (not (wait.1.1 == other)) (holds stands other wait.1.0) (subst (λ (s : ℕ). not (s == other) ≡ true) same apart.0)
          (list_any-from_Any (λ (s : ℕ × ℕ). s.0 == other && s.1 == wait.1.0) stands (
            stand.0,
            stand.1,
            stand.2,
            stand.3,
            and_from (stand.1.0 == other) (stand.1.1 == wait.1.0) parts.0 (eq-eqb stand.1.1 wait.1.0 row),
          ))),
    ))

pub joined_links : (waits stands : Pairs) → are_joined waits stands ≡ waits_by waits stands
joined_links waits stands = λ i waiter other. joined_by waits stands waiter other i

-- ---- rows below a number

pub rows-known : (rows : ℕ) (waits : Pairs) → ((row session : ℕ) → rows ≤ row → holds waits row session ≡ false) → AreRows rows waits
rows-known rows waits known i inside = elim (cases_lt (key_at waits i) rows) [
  | inl below ↦ below
  | inr above ↦ absurd (false≢true (sym (known (key_at waits i) (value_at waits i) above)
      ∙ list_any_at (λ pair. pair.0 == key_at waits i && pair.1 == value_at waits i) waits i (0, 0) inside
      (and_from (key_at waits i == key_at waits i) (value_at waits i == value_at waits i) (eq-eqb (key_at waits i) (key_at waits i) refl) (eq-eqb (value_at waits i) (value_at waits i) refl))))
]

pub rows-fresh : (rows : ℕ) (stands : Pairs) → ((row session : ℕ) → rows ≤ row → holds stands session row ≡ false) → AreBelow rows stands
rows-fresh rows stands fresh i inside = elim (cases_lt (value_at stands i) rows) [
  | inl below ↦ below
  | inr above ↦ absurd (false≢true (sym (fresh (value_at stands i) (key_at stands i) above)
      ∙ list_any_at (λ pair. pair.0 == key_at stands i && pair.1 == value_at stands i) stands i (0, 0) inside
      (and_from (key_at stands i == key_at stands i) (value_at stands i == value_at stands i) (eq-eqb (key_at stands i) (key_at stands i) refl) (eq-eqb (value_at stands i) (value_at stands i) refl))))
]

-- ---- one more who waits

pub or_false : (b : Bool) → (b || false) ≡ b
or_false true = refl
or_false false = refl

pub known-push : (waits : Pairs) (row session count : ℕ) → row < count → ((one other : ℕ) → count ≤ one → holds waits one other ≡ false)
    → (one other : ℕ) → count ≤ one → holds (waits ++ (row, session) ∷ []) one other ≡ false
known-push waits row session count below known one other above =
    let apart : (row == one) ≡ false = grind (arith, nat_tests, below, above) in
    list_any-append (λ (pair : ℕ × ℕ). pair.0 == one && pair.1 == other) waits ((row, session) ∷ []) ∙ rw (known one other above, apart) refl

-- where known rows stay as they were, so do the ties
joined-same : (waits old new : Pairs) (count : ℕ) → ((row session : ℕ) → row < count → holds new session row ≡ holds old session row) → AreRows count waits
    → (waiter other : ℕ) → are_joined waits new waiter other ≡ are_joined waits old waiter other
joined-same [] old new count same rows waiter other = refl
joined-same (wait ∷ waits) old new count same rows waiter other =
    rw (same wait.0 other (rows 0 (omega arith)), joined-same waits old new count same (λ i inside. rows (suc i) (omega (arith, inside))) waiter other) refl

-- a wish more
pub tie-push : (waits old new : Pairs) (count row session waiter other : ℕ) (was open_still among blocked : Bool)
    → ((row session : ℕ) → row < count → holds new session row ≡ holds old session row) → AreRows count waits
    → are_joined waits old waiter other ≡ (was || (open_still && among)) → holds new other row ≡ blocked → (session ≡ waiter → open_still ≡ true)
    → are_joined (waits ++ (row, session) ∷ []) new waiter other
    ≡ (was || (open_still && (among || (session == waiter && (not (session == other) && blocked)))))
tie-push waits old new count row session waiter other was open_still among blocked same rows so_far stands unsettled =
    list_any-append (λ (wait : ℕ × ℕ). wait.1 == waiter && (not (wait.1 == other) && holds new other wait.0)) waits ((row, session) ∷ [])
    ∙ rw (joined-same waits old new count same rows waiter other, so_far, stands)
    (joined was open_still among (session == waiter && (not (session == other) && blocked))
    (λ here. unsettled (eqb-true session waiter (and_parts (session == waiter) (not (session == other) && blocked) here).0))) where
      joined : (was open_still among here : Bool) → (here ≡ true → open_still ≡ true)
          → ((was || (open_still && among)) || (here || false)) ≡ (was || (open_still && (among || here)))
      joined true open_still among here unsettled = refl
      joined false true true here unsettled = refl
      joined false true false here unsettled = or_false here
      joined false false among true unsettled = sym (unsettled refl)
      joined false false among false unsettled = refl

-- a settled session's wish
pub tie-skip : (session waiter : ℕ) (was open_still among blocked : Bool) → (session ≡ waiter → open_still ≡ false)
    → (was || (open_still && among)) ≡ (was || (open_still && (among || (session == waiter && blocked))))
tie-skip session waiter was open_still among blocked settled =
    skipped was open_still among (session == waiter && blocked) (λ here. settled (eqb-true session waiter (and_parts (session == waiter) blocked here).0)) where
      skipped : (was open_still among here : Bool) → (here ≡ true → open_still ≡ false) → (was || (open_still && among)) ≡ (was || (open_still && (among || here)))
      skipped true open_still among here settled = refl
      skipped false false among here settled = refl
      skipped false true true here settled = refl
      skipped false true false true settled = sym (settled refl)
      skipped false true false false settled = refl

-- nobody waits for itself
pub joined-apart : (waits stands : Pairs) (session : ℕ) → are_joined waits stands session session ≡ false
joined-apart [] stands session = refl
joined-apart (wait ∷ waits) stands session =
    rw (joined-apart waits stands session)
    (elim (wait.1 == session) as (λ b. ((b && (not b && holds stands session wait.0)) || false) ≡ false) [ true ↦ refl | false ↦ refl ])

-- Where no wait is settled.
use Rattle.std.proofs.Common.{◌≡◌, ℕ, zero, suc, ◌-◌, ◌<◌, ◌≤◌, Bool, true, false, cond, List, length, replicate, refl, sym, ap, ◌∙◌, arith}
use Rattle.std.specs.Prelude.{slice_index_or, slice_set}
use Rattle.std.proofs.lemmas.List.Sums.{get_or-le-sum_by, sum_by-cons, sum_by-set}
use Rattle.mdl_core.specs.CoreCalls.{has_settled}
use Rattle.mdl_core.specs.Words.{SeatView, Core, empty_seat, seat_at, has_session, is_settled_wait}
use Rattle.mdl_space.specs.SettledWaits.{settled_waits}
use Rattle.mdl_space.proofs.ServingLemmas.{session-bounds}

-- what a seat adds to the number of settled waits
abbrev weight : SeatView → ℕ
weight seat = cond (is_settled_wait seat.wait) 1 0

weightless : (b : Bool) → cond {A = ℕ} b 1 0 ≤ 0 → b ≡ false
weightless true none = absurd (omega (arith, none))
weightless false none = refl

-- where none is settled, no session's is
pub none-settled : (core : Core) → settled_waits core.seats ≡ 0 → (who : ℕ) → has_settled core who ≡ false
none-settled core none who = by (has_session who core) refl
  where
    by : (b : Bool) → has_session who core ≡ b → has_settled core who ≡ false
    by false there = rw there refl
    by true there =
        let bounds = session-bounds who core there in
        let counts : weight (seat_at who core) ≤ settled_waits core.seats = get_or-le-sum_by weight core.seats (who - 1) empty_seat (omega (arith, bounds.0, bounds.1)) in
        rw there (weightless (is_settled_wait (seat_at who core).wait) (omega (arith, counts, none)))

-- as many are settled after a seat with the same wait was written
pub settled-kept : (seats : List SeatView) (index : ℕ) (old new : SeatView) → index < length seats → slice_index_or seats index old ≡ old → new.wait ≡ old.wait
    → settled_waits (slice_set seats index new) ≡ settled_waits seats
settled-kept seats index old new lt there same =
    let sums = sum_by-set weight seats index new old lt in
    let before : weight (slice_index_or seats index old) ≡ weight old = ap weight there in
    let after : weight new ≡ weight old = ap (λ wait. cond (is_settled_wait wait) 1 0) same in
    omega (arith, sums, before, after)

-- at first none is settled
pub settled-first : (sessions : ℕ) (seats : List SeatView) → seats ≡ replicate sessions empty_seat → 0 ≡ settled_waits seats
settled-first sessions seats new = sym (ap settled_waits new ∙ none sessions)
  where
    none : (n : ℕ) → settled_waits (replicate n empty_seat) ≡ 0
    none zero = refl
    none (suc n) = let others = none n in let one = sum_by-cons weight empty_seat (replicate n empty_seat) in omega (arith, one, others)

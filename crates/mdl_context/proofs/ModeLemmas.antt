-- Tickets in another mode.
use Rattle.std.proofs.Common.{◌≡◌, ℕ, zero, suc, ◌<◌, Bool, true, false, List, [], ◌∷◌, length, get_or, Some, None, refl, sym, arith}
use Rattle.std.specs.Prelude.{position, slice_set, if◌then◌else◌}
use Rattle.std.proofs.lemmas.Bool.Decides.{nat_tests}
use Rattle.std.proofs.lemmas.List.Quantifiers.{position-Some}
use Rattle.mdl_key.specs.declared.mode.Mode.{Mode}
use Rattle.mdl_calls.specs.SessionLocks.{upgraded}
use Rattle.mdl_system.specs.Strength.{covers}
use Rattle.mdl_context.specs.declared.kept.Kept.{Kept}
use Rattle.mdl_context.specs.Contexts.{AreRising, has_number}
use Rattle.mdl_context.specs.Holdings.{has_ticket_number, numbers_among, with_kept_mode}
use Rattle.mdl_context.proofs.FrontLemmas.{Above}
use Rattle.mdl_context.proofs.PlaceLemmas.{numbers-changed}
use Rattle.mdl_context.proofs.SearchLemmas.{placed, rises}

-- a ticket, in another mode where it has the number
abbrev pub changed : ℕ → (Mode → Mode) → Kept → Kept
changed id f t = if has_ticket_number id t then record t { mode = f t.mode } else t

either-id : (b : Bool) (t : Kept) (m : Mode) → (if b then record t { mode = m } else t).id ≡ t.id
either-id true t m = refl
either-id false t m = refl

either-place : (b : Bool) (t : Kept) (m : Mode) → (if b then record t { mode = m } else t).place ≡ t.place
either-place true t m = refl
either-place false t m = refl

pub changed-place : (id : ℕ) (f : Mode → Mode) (t : Kept) → (changed id f t).place ≡ t.place
changed-place id f t = either-place (has_ticket_number id t) t (f t.mode)

-- that changes no number and no place
pub numbers-in_mode : (id : ℕ) (f : Mode → Mode) (place : ℕ) (kept : List Kept) → numbers_among place (with_kept_mode id f kept) ≡ numbers_among place kept
numbers-in_mode id f place kept =
    numbers-changed (changed id f) (λ t. either-id (has_ticket_number id t) t (f t.mode)) (λ t. either-place (has_ticket_number id t) t (f t.mode)) place kept

-- no other ticket has a lower number
in_mode-above : (id : ℕ) (f : Mode → Mode) (xs : List Kept) → Above id xs → with_kept_mode id f xs ≡ xs
in_mode-above id f [] above = refl
in_mode-above id f (x ∷ xs) above = grind (arith, nat_tests, in_mode-above id f xs)

set-in_mode : (id : ℕ) (f : Mode → Mode) (xs : List Kept) (at : ℕ) (t : Kept) (m : Mode) → AreRising xs → at < length xs → t ≡ get_or xs at t → t.id ≡ id → m ≡ f t.mode
    → slice_set xs at (record t { mode = m }) ≡ with_kept_mode id f xs
set-in_mode id f [] at t m rising inside is here new = absurd (omega arith)
set-in_mode id f (x ∷ xs) zero t m rising inside is here new = grind (arith, nat_tests, in_mode-above id f xs)
set-in_mode id f (x ∷ xs) (suc at) t m rising inside is here new =
    let before : x.id < id = grind (arith, rises (x ∷ xs) 0 (suc at) t rising) in
    grind (arith, nat_tests, set-in_mode id f xs at t m)

-- where a number is, to put the mode there is to change the mode of the ticket of this number
pub in_mode-at : (id : ℕ) (f : Mode → Mode) (xs : List Kept) (at : ℕ) (t : Kept) (m : Mode) → AreRising xs → Some at ≡ position (has_ticket_number id) xs → t ≡ get_or xs at t → m ≡ f t.mode
    → slice_set xs at (record t { mode = m }) ≡ with_kept_mode id f xs
in_mode-at id f xs at t m rising place is new =
    let found = position-Some (has_ticket_number id) xs at t (sym place) in
    let here : t.id ≡ id = grind (arith, nat_tests, found.1) in
    set-in_mode id f xs at t m rising found.0 is here new

none-in_mode : (id : ℕ) (f : Mode → Mode) (xs : List Kept) → has_number xs id ≡ false → with_kept_mode id f xs ≡ xs
none-in_mode id f [] none = refl
none-in_mode id f (x ∷ xs) none = grind (arith, nat_tests, none-in_mode id f xs)

-- where it is nowhere, nothing changes
pub in_mode-none : (id : ℕ) (f : Mode → Mode) (xs : List Kept) → None ≡ position (has_ticket_number id) xs → with_kept_mode id f xs ≡ xs
in_mode-none id f xs place = none-in_mode id f xs (sym (placed id xs None place))

-- a weaker mode is changed by an upgrade, and another isn't
pub upgraded-weaker : (mode held : Mode) → covers held mode ≡ false → mode ≡ upgraded mode held
upgraded-weaker mode held weaker = rw weaker refl

pub upgraded-covered : (mode held : Mode) → covers held mode ≡ true → held ≡ upgraded mode held
upgraded-covered mode held covered = rw covered refl

-- Which places are in use, and which is the least one that isn't.
use Rattle.std.proofs.Common.{◌≡◌, ◌≢◌, ◌⊎◌, ℕ, zero, suc, ◌+◌, ◌-◌, ◌<◌, ◌≤◌, ◌==◌, not, Bool, true, false, cond, List, [], ◌∷◌, length, find, Some, None, inl, inr, refl, sym, ap, subst, ◌∙◌, arith}
use Rattle.std.specs.Prelude.{slice_index_or}
use Rattle.std.specs.List.{list_any, range_with_len}
use Rattle.std.proofs.lemmas.Bool.{false≢true, or_cases, or_left, or_right}
use Rattle.std.proofs.lemmas.Bool.Decides.{eqb_tells, leb_tells}
use Rattle.std.proofs.lemmas.List.{get_or_default}
use Rattle.mdl_calls.specs.SessionLocks.{is_pinned}
use Rattle.mdl_core.specs.Cores.{Core, has_key, has_pin, has_session, is_in_use, seat_at, standing_at, unused_place}
use Rattle.mdl_core.specs.Seats.{SeatView, empty_seat, locks_of_seat}
use Rattle.mdl_core.proofs.CallCases.{not_false, not_true}
use Rattle.mdl_core.proofs.CoreReads.{of_within, within}
use Rattle.mdl_system.proofs.Deciding.{nat_told}
use Rattle.mdl_system.proofs.MemberLemmas.{any-found}

-- ---- pins of any session

-- whether a seat has a pin of the place
abbrev pins_place : ℕ → SeatView → Bool
pins_place place seat = is_pinned place (locks_of_seat seat)

any-pins : (place : ℕ) (seats : List SeatView) (index : ℕ) → pins_place place (slice_index_or seats index empty_seat) ≡ true
    → list_any (pins_place place) seats ≡ true
any-pins place [] index pins = cc
any-pins place (seat ∷ seats) zero pins = or_left (pins_place place seat) (list_any (pins_place place) seats) pins
any-pins place (seat ∷ seats) (suc index) pins =
    or_right (pins_place place seat) (list_any (pins_place place) seats) (any-pins place seats index pins)

module _ (core : Core) (place : ℕ) where
  -- a pin is a session's
  by_session : list_any (pins_place place) core.seats ≡ true → (who : ℕ) × (has_session who core ≡ true) × (has_pin who place core ≡ true)
  by_session some =
      let h = any-found (pins_place place) core.seats some in
      let index : ℕ = h.1.0 in
      let inside = h.1.1 in
      let here : suc index - 1 ≡ index = omega arith in
      let seat : seat_at (suc index) core ≡ h.0 =
      ap (λ n. slice_index_or core.seats n empty_seat) here ∙ get_or_default core.seats index empty_seat h.0 inside ∙ h.1.2 in
      (suc index, of_within (suc index) (length core.seats) (omega arith) (omega (arith, inside)), ap (pins_place place) seat ∙ h.2)

  pub pin-session : (who : ℕ) → has_pin who place core ≡ true → (w : ℕ) × (has_session w core ≡ true) × (has_pin w place core ≡ true)
  pin-session who pins = by_session (any-pins place core.seats (who - 1) pins)

  -- ---- places in use

  -- a place that a session pins is in use
  pub used-by_pin : (who : ℕ) → has_pin who place core ≡ true → is_in_use place core ≡ true
  used-by_pin who pins =
      or_left (list_any (pins_place place) core.seats) (not ((standing_at place core).version == 0)) (any-pins place core.seats (who - 1) pins)

  -- and one with a version is
  pub used-by_version : (standing_at place core).version ≢ 0 → is_in_use place core ≡ true
  used-by_version versioned =
      or_right (list_any (pins_place place) core.seats) (not ((standing_at place core).version == 0)) (elim (eqb_tells (standing_at place core).version 0) [
        | inl e ↦ absurd (versioned e.1)
        | inr e ↦ ap not e.0
      ])

  -- no other is
  pub use-told : is_in_use place core ≡ true
      → ((who : ℕ) × (has_session who core ≡ true) × (has_pin who place core ≡ true)) ⊎ ((standing_at place core).version ≢ 0)
  use-told used = elim (or_cases (list_any (pins_place place) core.seats) (not ((standing_at place core).version == 0)) used) [
    | inl pinned ↦ inl (by_session pinned)
    | inr versioned ↦ inr (elim (eqb_tells (standing_at place core).version 0) [
      | inl e ↦ absurd (false≢true (sym (ap not e.0) ∙ versioned))
      | inr e ↦ e.1
    ])
  ]

  -- one that isn't has no pin and no version
  pub unpinned : is_in_use place core ≡ false → (who : ℕ) → has_pin who place core ≡ true → ⊥
  unpinned unused who pins = false≢true (sym unused ∙ used-by_pin who pins)

  pub unversioned : is_in_use place core ≡ false → (standing_at place core).version ≡ 0
  unversioned unused = elim (nat_told (standing_at place core).version 0) [
    | inl none ↦ none
    | inr some ↦ absurd (false≢true (sym unused ∙ used-by_version some))
  ]

-- ---- the least one that isn't

-- the first number of a range that passes a test
first-found : (test : ℕ → Bool) (least count number : ℕ) → find test (range_with_len least count) ≡ Some number
    → (least ≤ number) × (number < least + count) × (test number ≡ true) × ((other : ℕ) → least ≤ other → other < number → test other ≡ false)
first-found test least zero number found = cc
first-found test least (suc count) number found =
    elim (test least) as (λ b. test least ≡ b → cond b (Some least) (find test (range_with_len (least + 1) count)) ≡ Some number
    → (least ≤ number) × (number < least + suc count) × (test number ≡ true) × ((other : ℕ) → least ≤ other → other < number → test other ≡ false)) [
      | true ↦ λ passes e.
          (let same : least ≡ number = cc in
          (omega (arith, same), omega (arith, same), subst (λ n. test n ≡ true) same passes, λ other from below. absurd (omega (arith, same))))
      | false ↦ λ fails e.
          (let h = first-found test (least + 1) count number e in (
            omega (arith, h.0),
            omega (arith, h.1),
            h.2,
            λ other from below. elim (nat_told other least) [
              | inl here ↦ ap test here ∙ fails
              | inr later ↦ h.3 other (omega (arith, later)) below
            ],
          ))
    ] refl found

none-found : (test : ℕ → Bool) (least count : ℕ) → find test (range_with_len least count) ≡ None
    → (other : ℕ) → least ≤ other → other < least + count → test other ≡ false
none-found test least zero none other from below = absurd (omega arith)
none-found test least (suc count) none other from below =
    elim (test least) as (λ b. test least ≡ b → cond b (Some least) (find test (range_with_len (least + 1) count)) ≡ None → test other ≡ false) [
      | true ↦ λ passes e. cc
      | false ↦ λ fails e. elim (nat_told other least) [
        | inl here ↦ ap test here ∙ fails
        | inr later ↦ none-found test (least + 1) count e other (omega (arith, later)) (omega arith)
      ]
    ] refl none

module _ (core : Core) where
  abbrev is_unused : ℕ → Bool
  is_unused place = not (is_in_use place core)

  pub unused-some : (place : ℕ) → unused_place core ≡ Some place
      → (has_key place core ≡ true) × (is_in_use place core ≡ false)
      × ((other : ℕ) → has_key other core ≡ true → is_in_use other core ≡ false → place ≤ other)
  unused-some place found =
      let h = first-found is_unused 1 (length core.books) place found in (
        of_within place (length core.books) h.0 (omega (arith, h.1)),
        not_true (is_in_use place core) h.2,
        λ other has unused. elim (le_told place other) [
          | inl e ↦ e
          | inr less ↦
              let used = h.3 other (within other (length core.books) has).0 less in
              absurd (false≢true (sym unused ∙ not_false (is_in_use other core) used))
        ],
      )
    where
      le_told : (m n : ℕ) → (m ≤ n) ⊎ (n < m)
      le_told m n = elim (leb_tells m n) [ inl e ↦ inl e.1 | inr e ↦ inr e.1 ]

  pub unused-none : unused_place core ≡ None → (place : ℕ) → has_key place core ≡ true → is_in_use place core ≡ true
  unused-none none place has =
      let fits = within place (length core.books) has in
      not_false (is_in_use place core) (none-found is_unused 1 (length core.books) none place fits.0 (omega (arith, fits.1)))

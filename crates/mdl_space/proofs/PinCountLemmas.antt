-- How many sessions pin each place, as seats and their pins change.
use Rattle.std.proofs.Common.{◌≡◌, ◌≢◌, ◌⊎◌, ℕ, zero, suc, ◌+◌, ◌-◌, ◌<◌, ◌≤◌, Bool, true, false, cond, not, ◌&&◌, ◌||◌, ◌==◌, List, [], ◌∷◌, length, inl, inr, refl, sym, ap, subst, ◌∙◌, arith, replicate}
use Rattle.std.specs.Prelude.{slice_index_or, slice_set}
use Rattle.std.specs.List.{list_any}
use Rattle.std.proofs.lemmas.Bool.Decides.{eqb_tells, leb_tells, nat_tests}
use Rattle.std.proofs.lemmas.List.{get_or_default, get_or_past, get_or-set_same, get_or-set_other}
use Rattle.std.proofs.lemmas.List.Folds.{list_any_at}
use Rattle.std.proofs.lemmas.List.Sums.{count_by-le-length, get_or-le-sum_by, sum_by-cons, sum_by-set}
use Rattle.mdl_calls.specs.SessionLocks.{is_pinned, with_place, without_place}
use Rattle.mdl_core.specs.Seats.{SeatView, empty_seat, locks_of_seat, with_pin, without_pin}
use Rattle.mdl_space.specs.PinCounts.{CountsPins, pin_count}

-- ---- a session's pins

-- whether a seat pins a place
abbrev pub pins : ℕ → SeatView → Bool
pins place seat = is_pinned place (locks_of_seat seat)

among-with : (other place : ℕ) (places : List ℕ)
    → list_any (λ pin. pin == other) (with_place place places) ≡ (list_any (λ pin. pin == other) places || place == other)
among-with other place [] = grind (arith, nat_tests)
among-with other place (first ∷ later) = grind (arith, nat_tests, among-with other place later)

among-without : (other place : ℕ) (places : List ℕ)
    → list_any (λ pin. pin == other) (without_place place places) ≡ (list_any (λ pin. pin == other) places && not (place == other))
among-without other place [] = refl
among-without other place (first ∷ later) = grind (arith, nat_tests, among-without other place later)

-- ---- what a seat adds to the count of a place

abbrev weight : ℕ → SeatView → ℕ
weight place seat = cond (pins place seat) 1 0

-- the count after a seat was written
seat-written : (place : ℕ) (seats : List SeatView) (index : ℕ) (old new : SeatView) → index < length seats → slice_index_or seats index old ≡ old
    → pin_count place (slice_set seats index new) + weight place old ≡ pin_count place seats + weight place new
seat-written place seats index old new inside there =
    subst (λ seat. pin_count place (slice_set seats index new) + weight place seat ≡ pin_count place seats + weight place new) there
    (sum_by-set (weight place) seats index new old inside)

module _ (counts : List ℕ) (seats : List SeatView) (index : ℕ) (old new : SeatView) (inside : index < length seats) (there : slice_index_or seats index old ≡ old)
    (told : CountsPins counts seats) where
  -- a seat that pins the same places
  pub counts-kept : ((place : ℕ) → pins place new ≡ pins place old) → CountsPins counts (slice_set seats index new)
  counts-kept same = record {
    tells = λ place. (
        let written = seat-written place seats index old new inside there in
        let weighs : weight place new ≡ weight place old = ap (λ b. cond {A = ℕ} b 1 0) (same place) in
        let before = told.tells place in
        omega (arith, written, weighs, before)
        );
  }

  -- a seat that pins one place more, or one less
  module _ (one count : ℕ) (counted : one < length counts) (others : (place : ℕ) → place ≢ one → pins place new ≡ pins place old)
      (itself : count + weight one old ≡ slice_index_or counts one 0 + weight one new) where
    pub counts-written : CountsPins (slice_set counts one count) (slice_set seats index new)
    counts-written = record { tells = λ place. by place (eqb_tells place one) }
      where
        by : (place : ℕ) → (((place == one) ≡ true) × (place ≡ one)) ⊎ (((place == one) ≡ false) × (place ≢ one))
            → slice_index_or (slice_set counts one count) place 0 ≡ pin_count place (slice_set seats index new)
        by place (inl same) =
            let written = seat-written one seats index old new inside there in
            let before = told.tells one in
            let right : count ≡ pin_count one (slice_set seats index new) = omega (arith, written, before, itself) in
            ap (λ p. slice_index_or (slice_set counts one count) p 0) same.1 ∙ get_or-set_same counts one count 0 counted ∙ right
            ∙ ap (λ p. pin_count p (slice_set seats index new)) (sym same.1)
        by place (inr apart) =
            let written = seat-written place seats index old new inside there in
            let weighs : weight place new ≡ weight place old = ap (λ b. cond {A = ℕ} b 1 0) (others place apart.1) in
            let right : pin_count place seats ≡ pin_count place (slice_set seats index new) = omega (arith, written, weighs) in
            get_or-set_other counts one place count 0 apart.1 ∙ told.tells place ∙ right

-- ---- what a count tells

module _ (counts : List ℕ) (seats : List SeatView) (told : CountsPins counts seats) where
  -- a pinned place has a count, which isn't 0
  pub pinned-counts : (index : ℕ) (seat : SeatView) (one : ℕ) → index < length seats → slice_index_or seats index seat ≡ seat → pins one seat ≡ true
      → 1 ≤ slice_index_or counts one 0
  pinned-counts index seat one inside there had =
      let most = get_or-le-sum_by (weight one) seats index seat inside in
      let weighs : weight one (slice_index_or seats index seat) ≡ 1 = ap (weight one) there ∙ ap (λ b. cond {A = ℕ} b 1 0) had in
      let counts_so = told.tells one in
      omega (arith, most, weighs, counts_so)

  pub pinned-within : (index : ℕ) (seat : SeatView) (one : ℕ) → index < length seats → slice_index_or seats index seat ≡ seat → pins one seat ≡ true
      → one < length counts
  pinned-within index seat one inside there had =
      let least = pinned-counts index seat one inside there had in
      elim (leb_tells (length counts) one) [
        | inl past ↦ let default : slice_index_or counts one 0 ≡ 0 = get_or_past counts one 0 past.1 in absurd (omega (arith, least, default))
        | inr within ↦ within.1
      ]

  -- no count is above the number of sessions
  pub counts-bounded : (one : ℕ) → slice_index_or counts one 0 ≤ length seats
  counts-bounded one = let most = count_by-le-length (pins one) seats in let so = told.tells one in omega (arith, most, so)

  -- a place is pinned where its count isn't 0
  pub count-tells : (one : ℕ) → (slice_index_or counts one 0 == 0) ≡ not (list_any (λ seat. pins one seat) seats)
  count-tells one = ap (λ n. n == 0) (told.tells one) ∙ by seats
    where
      by : (seats : List SeatView) → (pin_count one seats == 0) ≡ not (list_any (λ seat. pins one seat) seats)
      by [] = refl
      by (seat ∷ seats) = grind (arith, nat_tests, sum_by-cons (weight one) seat seats, by seats)

-- ---- a pin more, and a pin less

-- other places are pinned as before
with-others : (one : ℕ) (seat : SeatView) (place : ℕ) → place ≢ one → pins place (with_pin one seat) ≡ pins place seat
with-others one seat place apart = grind (arith, nat_tests, among-with place one seat.pins)

without-others : (one : ℕ) (seat : SeatView) (place : ℕ) → place ≢ one → pins place (without_pin one seat) ≡ pins place seat
without-others one seat place apart = grind (arith, nat_tests, among-without place one seat.pins)

with-itself : (one : ℕ) (seat : SeatView) → pins one (with_pin one seat) ≡ true
with-itself one seat = grind (arith, nat_tests, among-with one one seat.pins)

without-itself : (one : ℕ) (seat : SeatView) → pins one (without_pin one seat) ≡ false
without-itself one seat = grind (arith, nat_tests, among-without one one seat.pins)

-- a pin that is there already changes none
pub pins-with_same : (one : ℕ) (seat : SeatView) → pins one seat ≡ true → (place : ℕ) → pins place (with_pin one seat) ≡ pins place seat
pins-with_same one seat had place = elim (eqb_tells place one) [
  | inl same ↦ ap (λ p. pins p (with_pin one seat)) same.1 ∙ with-itself one seat ∙ sym had ∙ ap (λ p. pins p seat) (sym same.1)
  | inr apart ↦ with-others one seat place apart.1
]

module _ (counts : List ℕ) (seats : List SeatView) (index : ℕ) (seat : SeatView) (inside : index < length seats) (there : slice_index_or seats index seat ≡ seat)
    (told : CountsPins counts seats) (one count : ℕ) where
  -- a new pin is counted
  pub pin-counted : one < length counts → pins one seat ≡ false → count ≡ slice_index_or counts one 0 + 1
      → CountsPins (slice_set counts one count) (slice_set seats index (with_pin one seat))
  pin-counted counted new more =
      let before : weight one seat ≡ 0 = ap (λ b. cond {A = ℕ} b 1 0) new in
      let after : weight one (with_pin one seat) ≡ 1 = ap (λ b. cond {A = ℕ} b 1 0) (with-itself one seat) in
      counts-written counts seats index seat (with_pin one seat) inside there told one count counted (with-others one seat) (omega (arith, before, after, more))

  -- and one that is given up no longer
  pub unpin-counted : one < length counts → pins one seat ≡ true → count + 1 ≡ slice_index_or counts one 0
      → CountsPins (slice_set counts one count) (slice_set seats index (without_pin one seat))
  unpin-counted counted had less =
      let before : weight one seat ≡ 1 = ap (λ b. cond {A = ℕ} b 1 0) had in
      let after : weight one (without_pin one seat) ≡ 0 = ap (λ b. cond {A = ℕ} b 1 0) (without-itself one seat) in
      counts-written counts seats index seat (without_pin one seat) inside there told one count counted (without-others one seat) (omega (arith, before, after, less))

-- the count as it is read
pub count-read : (counts : List ℕ) (place i n : ℕ) → i ≡ place → i < length counts → n ≡ slice_index_or counts i n → slice_index_or counts place 0 ≡ n
count-read counts place i n is counted here = ap (λ p. slice_index_or counts p 0) (sym is) ∙ get_or_default counts i 0 n counted ∙ sym here

-- and as it is written
module _ (counts : List ℕ) (seats : List SeatView) (index : ℕ) (seat new : SeatView) (inside : index < length seats)
    (there : slice_index_or seats index seat ≡ seat) (told : CountsPins counts seats) (place i n : ℕ) (is : i ≡ place) (counted : i < length counts)
    (here : n ≡ slice_index_or counts i n) where
  pub counts-more : pins place seat ≡ false → new ≡ with_pin place seat → CountsPins (slice_set counts i (n + 1)) (slice_set seats index new)
  counts-more fresh so =
      rw (is, so) (pin-counted counts seats index seat inside there told place (n + 1) (subst (λ p. p < length counts) is counted) fresh (ap (λ m. m + 1) (sym (count-read counts place i n is counted here))))

  -- the first pin of a place
  pub counts-one : list_any (λ one. pins place one) seats ≡ false → new ≡ with_pin place seat → CountsPins (slice_set counts i 1) (slice_set seats index new)
  counts-one nobody so =
      let none : (slice_index_or counts place 0 == 0) ≡ true = count-tells counts seats told place ∙ ap not nobody in
      let zero_there : slice_index_or counts place 0 ≡ 0 = grind (arith, nat_tests) in
      rw (is, so) (pin-counted counts seats index seat inside there told place 1 (subst (λ p. p < length counts) is counted) (fresh (pins place seat) refl) (omega (arith, zero_there)))
    where
      fresh : (b : Bool) → pins place seat ≡ b → pins place seat ≡ false
      fresh false unpinned = unpinned
      fresh true pinned = let all = list_any_at (λ one. pins place one) seats index seat inside (ap (pins place) there ∙ pinned) in let none = sym all ∙ nobody in cc

  pub counts-less : pins place seat ≡ true → new ≡ without_pin place seat → CountsPins (slice_set counts i (n - 1)) (slice_set seats index new)
  counts-less had so =
      let least = pinned-counts counts seats told index seat place inside there had in
      let read = count-read counts place i n is counted here in
      rw (is, so) (unpin-counted counts seats index seat inside there told place (n - 1) (subst (λ p. p < length counts) is counted) had (omega (arith, least, read)))

-- at first nobody pins anything
pub counts-first : (counts : List ℕ) (n sessions : ℕ) (seats : List SeatView) → counts ≡ replicate n 0 → seats ≡ replicate sessions empty_seat
    → CountsPins counts seats
counts-first counts n sessions seats filled unpinned = record {
  tells = λ place. ap (λ l. slice_index_or l place 0) filled ∙ zeros n place ∙ sym (ap (pin_count place) unpinned ∙ nobody sessions place);
}
  where
    zeros : (n place : ℕ) → ◌≡◌ {A = ℕ} (slice_index_or (replicate n 0) place 0) 0
    zeros zero place = refl
    zeros (suc n) zero = refl
    zeros (suc n) (suc place) = zeros n place

    nobody : (sessions place : ℕ) → pin_count place (replicate sessions empty_seat) ≡ 0
    nobody zero place = refl
    nobody (suc sessions) place = let others = nobody sessions place in let one = sum_by-cons (weight place) empty_seat (replicate sessions empty_seat) in omega (arith, one, others)

-- Places that are given anew: the search for an unused one, and the keys that are known afterwards.
use Rattle.std.proofs.Common.{◌≡◌, ◌≢◌, ℕ, zero, suc, ◌+◌, ◌-◌, ◌<◌, ◌≤◌, Bool, true, false, cond, not, ◌||◌, ◌==◌, nat_le, List, length, Option, None, Some, Result, Ok, Err, OnOk, is_err, refl, sym, ap, ◌∙◌, arith}
use Rattle.std.specs.Prelude.{find, slice_index_or}
use Rattle.std.specs.List.{range_with_len}
use Rattle.std.proofs.lemmas.Bool.Decides.{nat_tests}
use Rattle.std.proofs.lemmas.List.{get_or_default}
use Rattle.std.proofs.lemmas.List.Folds.{list_any_none}
use Rattle.mdl_key.specs.Keys.{KeyName, global_key, key_eq}
use Rattle.mdl_book.specs.Books.{empty_book}
use Rattle.mdl_book.specs.declared.book_view.BookView.{BookView}
use Rattle.mdl_calls.specs.Words.{At_place}
use Rattle.mdl_core.specs.CoreCalls.{resolve_outcome}
use Rattle.mdl_core.specs.Cores.{Core, has_key, has_pin, index_of, is_in_use, key_at, pinning, placing_at, standing_at, unused_place}
use Rattle.mdl_core.specs.Seats.{SeatView, empty_seat}
use Rattle.mdl_core.specs.Ties.{IsTied}
use Rattle.mdl_core.proofs.CoreReads.{of_within}
use Rattle.mdl_system.proofs.Deciding.{key-Decides}
use Rattle.mdl_space.specs.GivenPlaces.{placed_at, some_session_pins}
use Rattle.mdl_space.specs.PinCounts.{CountsPins}
use Rattle.mdl_space.proofs.PinCountLemmas.{count-tells, pins}
use Rattle.mdl_space.proofs.ServingLemmas.{key-bounds}

-- what is promised of a call that succeeds
pub once_ok : {X E P : Type 0} (r : Result X E) → OnOk r P → is_err r ≡ false → P
once_ok (Ok x) told made = told
once_ok (Err e) told made = cc

-- ---- places in use

-- the count of a place, as it is read
module _ (core view : Core) (counts : List ℕ) (place i n : ℕ) (same : view ≡ core) (told : CountsPins counts view.seats) (is : i ≡ place) (counted : i < length counts)
    (here : n ≡ slice_index_or counts i n) where
  count-told : (n == 0) ≡ not (some_session_pins place core)
  count-told =
      let read : slice_index_or counts place 0 ≡ n = ap (λ p. slice_index_or counts p 0) (sym is) ∙ get_or_default counts i 0 n counted ∙ sym here in
      ap (λ m. m == 0) (sym read) ∙ count-tells counts view.seats told place ∙ ap (λ c. not (some_session_pins place c)) same

  pub used-by_pin : (n == 0) ≡ false → not (n == 0) ≡ is_in_use place core
  used-by_pin some = ap not count-told ∙ by (some_session_pins place core) (not ((standing_at place core).version == 0)) (sym count-told ∙ some)
    where
      by : (p v : Bool) → not p ≡ false → not (not p) ≡ (p || v)
      by true v not_so = refl
      by false v not_so = cc

  pub used-by_version : (version : ℕ) → (n == 0) ≡ true → version ≡ (standing_at place core).version → not (version == 0) ≡ is_in_use place core
  used-by_version version none so = ap (λ v. not (v == 0)) so ∙ by (some_session_pins place core) (not ((standing_at place core).version == 0)) (sym count-told ∙ none)
    where
      by : (p v : Bool) → not p ≡ true → v ≡ (p || v)
      by true v not_so = cc
      by false v not_so = refl

-- ---- the search

module _ (core : Core) where
  -- what is found among the places after this one
  abbrev pub found_after : ℕ → Option ℕ
  found_after place = find (λ other. not (is_in_use other core)) (range_with_len (place + 1) (length core.books - place))

  module _ (place : ℕ) where
    next_after : (n : ℕ) (b : Bool) → is_in_use (place + 1) core ≡ b
        → find (λ other. not (is_in_use other core)) (range_with_len (place + 1) (suc n))
        ≡ cond (not b) (Some (place + 1)) (find (λ other. not (is_in_use other core)) (range_with_len (place + 1 + 1) n))
    next_after n b so = ap (λ b. cond (not b) (Some (place + 1)) (find (λ other. not (is_in_use other core)) (range_with_len (place + 1 + 1) n))) so

    -- the next place is in use
    pub used-passed : place < length core.books → is_in_use (place + 1) core ≡ true → found_after place ≡ found_after (place + 1)
    used-passed inside used =
        let more : length core.books - place ≡ suc (length core.books - (place + 1)) = omega arith in
        ap (λ n. find (λ other. not (is_in_use other core)) (range_with_len (place + 1) n)) more ∙ next_after (length core.books - (place + 1)) true used

    -- or is found
    pub unused-found : place < length core.books → is_in_use (place + 1) core ≡ false → found_after place ≡ Some (place + 1)
    unused-found inside unused =
        let more : length core.books - place ≡ suc (length core.books - (place + 1)) = omega arith in
        ap (λ n. find (λ other. not (is_in_use other core)) (range_with_len (place + 1) n)) more ∙ next_after (length core.books - (place + 1)) false unused

    -- after the last place there is none
    pub none-found : length core.books ≤ place → found_after place ≡ None
    none-found over =
        let none : length core.books - place ≡ 0 = omega arith in
        ap (λ n. find (λ other. not (is_in_use other core)) (range_with_len (place + 1) n)) none

  -- what is found has a key and isn't in use
  pub unused-told : (place : ℕ) → unused_place core ≡ Some place → (1 ≤ place) × (place ≤ length core.books) × (is_in_use place core ≡ false)
  unused-told place found =
      let told = found_in (λ other. not (is_in_use other core)) (length core.books) 1 place found in
      let most = told.1 in
      (told.0, omega (arith, most), not_used (is_in_use place core) told.2)
    where
      found_in : (test : ℕ → Bool) (n start place : ℕ) → find test (range_with_len start n) ≡ Some place → (start ≤ place) × (place < start + n) × (test place ≡ true)
      found_in test zero start place found = cc
      found_in test (suc n) start place found =
          elim (test start) as (λ b. test start ≡ b → cond b (Some start) (find test (range_with_len (start + 1) n)) ≡ Some place
          → (start ≤ place) × (place < start + suc n) × (test place ≡ true)) [
            | true ↦ λ passes here. (let same : start ≡ place = cc in (omega arith, omega arith, ap test (sym same) ∙ passes))
            | false ↦ λ fails later. (
                let told = found_in test n (start + 1) place later in
                let least = told.0 in
                let most = told.1 in
                (omega (arith, least), omega (arith, most), told.2)
                )
          ] refl found

      not_used : (b : Bool) → not b ≡ true → b ≡ false
      not_used true used = cc
      not_used false used = refl

  -- nobody pins a place that isn't in use
  pub unused-unpinned : (place : ℕ) → is_in_use place core ≡ false → some_session_pins place core ≡ false
  unused-unpinned place unused = first (some_session_pins place core) (not ((standing_at place core).version == 0)) unused
    where
      first : (p v : Bool) → (p || v) ≡ false → p ≡ false
      first true v neither = cc
      first false v neither = refl

  -- nor one that has no key yet
  pub next-unpinned : IsTied core → some_session_pins (length core.books + 1) core ≡ false
  next-unpinned tied = list_any_none (λ seat. pins (length core.books + 1) seat) core.seats (λ k d within. unpinned k within d (pins (length core.books + 1) (slice_index_or core.seats k d)) refl)
    where
      unpinned : (k : ℕ) → k < length core.seats → (d : SeatView) (b : Bool) → pins (length core.books + 1) (slice_index_or core.seats k d) ≡ b
          → pins (length core.books + 1) (slice_index_or core.seats k d) ≡ false
      unpinned k within d false fails = fails
      unpinned k within d true passes =
          let itself : k + 1 - 1 ≡ k = omega arith in
          let has : has_pin (k + 1) (length core.books + 1) core ≡ true =
          ap (λ i. pins (length core.books + 1) (slice_index_or core.seats i empty_seat)) itself
          ∙ ap (pins (length core.books + 1)) (get_or_default core.seats k empty_seat d within) ∙ passes in
          let key = tied.pinned (k + 1) (length core.books + 1) (of_within (k + 1) (length core.seats) (omega arith) (omega arith)) has in
          let most = (key-bounds (length core.books + 1) core key).1 in
          absurd (omega (arith, most))

-- ---- different places have different keys

pub distinct-keys : (core : Core) (books : List BookView) (index : ℕ) (old : BookView) → books ≡ core.books → IsTied core → index < length books
    → slice_index_or books index old ≡ old → (k : ℕ) → k < length books → k ≢ index → key_eq (slice_index_or books k old).key old.key ≡ false
distinct-keys core books index old same tied inside there k within apart = by (key_eq (slice_index_or books k old).key old.key) refl
  where
    key_there : (i : ℕ) → i < length books → key_at (i + 1) core ≡ (slice_index_or books i old).key
    key_there i lt =
        let itself : i + 1 - 1 ≡ i = omega arith in
        ap (λ j. (slice_index_or core.books j (empty_book global_key)).key) itself ∙ ap (λ l. (slice_index_or l i (empty_book global_key)).key) (sym same)
        ∙ ap (λ (b : BookView). b.key) (get_or_default books i (empty_book global_key) old lt)

    has : (i : ℕ) → i < length books → has_key (i + 1) core ≡ true
    has i lt = let long = ap length same in of_within (i + 1) (length core.books) (omega arith) (omega (arith, long))

    by : (b : Bool) → key_eq (slice_index_or books k old).key old.key ≡ b → b ≡ false
    by false differs = refl
    by true is =
        let both : key_at (k + 1) core ≡ key_at (index + 1) core =
        key_there k within ∙ (key-Decides (slice_index_or books k old).key old.key).0 is ∙ sym (key_there index inside ∙ ap (λ (b : BookView). b.key) there) in
        let one = tied.keys (k + 1) (index + 1) (has k within) (has index inside) both in
        absurd (apart (omega (arith, one)))

-- ---- a key gets a place anew

pub given-anew : (core new : Core) (who : ℕ) (key : KeyName) (place : ℕ) → index_of key core.books ≡ None → core.places ≤ length core.books
    → unused_place core ≡ Some place → new ≡ pinning who place (placed_at place key core) → resolve_outcome who key core ≡ (At_place place, new)
given-anew core new who key place none full found given =
    let over : nat_le core.places (length core.books) ≡ true = grind (arith, nat_tests) in
    let most = (unused-told core place found).1 in
    let there : nat_le place (length core.books) ≡ true = grind (arith, nat_tests, most) in
    let so : placing_at place key core ≡ placed_at place key core = rw there refl in
    rw (none, over, found) (ap (λ (k : Core). (At_place place, k)) (ap (pinning who place) so ∙ sym given))

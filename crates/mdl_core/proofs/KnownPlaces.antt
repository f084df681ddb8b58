-- Which keys are at which places in the space of one thread, and who knows and pins them.
use Rattle.std.proofs.Common.{◌≡◌, ◌≢◌, ℕ, ◌+◌, ◌-◌, ◌<◌, ◌≤◌, Bool, true, false, List, [], ◌∷◌, ◌++◌, length, position, get_or, Option, Some, None, option_map, Contains, inl, inr, refl, sym, ap, subst, ◌∙◌, arith}
use Rattle.std.specs.List.{position_or_len}
use Rattle.std.proofs.lemmas.Bool.{false≢true}
use Rattle.std.proofs.lemmas.Bool.Decides.{nat_tests}
use Rattle.std.proofs.lemmas.Grind.{common_steps}
use Rattle.std.proofs.lemmas.List.{length-append, get_or_append_left}
use Rattle.std.proofs.lemmas.List.Sums.{fails_before_first}
use Rattle.std.proofs.Math.Seq.{get_or-append_seam}
use Rattle.mdl_book.specs.Books.{empty_book}
use Rattle.mdl_book.specs.declared.book_view.BookView.{BookView}
use Rattle.mdl_key.specs.Keys.{KeyName, global_key, key_eq}
use Rattle.mdl_calls.specs.declared.answers.Held.{Held}
use Rattle.mdl_calls.proofs.PinLemmas.{is_among, with-here}
use Rattle.mdl_calls.specs.SessionLocks.{Wait, are_rising_places, is_pinned, with_place}
use Rattle.mdl_core.specs.declared.pending.Pending.{Pending}
use Rattle.mdl_core.specs.Changes.{opening}
use Rattle.mdl_core.specs.CoreJoins.{SpeaksFor, locks_at, Knows}
use Rattle.mdl_core.specs.Cores.{Core, seat_at, key_at, has_key, has_pin, has_session, index_of, is_in_use, pinning, placing_at}
use Rattle.mdl_core.specs.Seats.{SeatView, ticket_of_wait}
use Rattle.mdl_core.specs.Ties.{IsTied}
use Rattle.mdl_core.proofs.CoreReads.{within, has_key-booking, booked-same, booked-other}
use Rattle.mdl_core.proofs.NeededPlaces.{waits-ticket}
use Rattle.mdl_core.proofs.PinnedSeats.{repinned-same}
use Rattle.mdl_core.proofs.SparedSeats.{KeepsKey, Spares, as_wait}
use Rattle.mdl_core.proofs.UnusedPlaces.{used-by_pin, used-by_version}
use Rattle.mdl_system.proofs.Deciding.{key-Decides}

-- ---- a key's place

none_passes : {X : Type 0} (p : X → Bool) (xs : List X) (k : ℕ) (d : X) → position p xs ≡ None → k < length xs → p (get_or xs k d) ≡ false
none_passes p xs k d none lt =
    let past : length xs ≤ position_or_len p xs = grind (arith, common_steps) in
    fails_before_first p xs k d (omega arith)

-- a key that no book has is at no place
pub unplaced : (a : Core) (place : ℕ) (key : KeyName) → index_of key a.books ≡ None → (has_key place a ≡ true) × (key_at place a ≡ key) → ⊥
unplaced a place key none knows =
    let h = within place (length a.books) knows.0 in
    let differs : key_eq (key_at place a) key ≡ false =
    none_passes (λ (book : BookView). key_eq book.key key) a.books (place - 1) (empty_book global_key) none (omega (arith, h.0, h.1)) in
    let same : key_eq (key_at place a) key ≡ true = (key-Decides (key_at place a) key).1 knows.1 in
    cc

-- a place whose key a session knows is in use
pub known-used : (a : Core) (w place : ℕ) (key : KeyName) → Knows a w place key → is_in_use place a ≡ true
known-used a w place key knows = elim knows.2 [ inl pins ↦ used-by_pin a place w pins | inr some ↦ used-by_version a place some ]

-- a session that pins the place of a key then knows the key
pub known-pinning : (mid : Core) (who place : ℕ) (key : KeyName) → has_session who mid ≡ true → has_key place mid ≡ true → key_at place mid ≡ key
    → Knows (pinning who place mid) who place key
known-pinning mid who place key session has is = (
  has,
  is,
  inl (ap (λ (s : SeatView). is_among place s.pins) (repinned-same mid who (with_place place (seat_at who mid).pins) session)
      ∙ with-here place (seat_at who mid).pins),
)

-- ---- a new place

module _ (a : Core) (key : KeyName) where
  longer : length (a.books ++ empty_book key ∷ []) ≡ length a.books + 1
  longer = length-append a.books (empty_book key ∷ [])

  -- it has its key
  pub new-keyed : (has_key (length a.books + 1) (opening key a) ≡ true) × (key_at (length a.books + 1) (opening key a) ≡ key)
  new-keyed =
      let e = longer in
      let at : length a.books + 1 - 1 ≡ length a.books = omega arith in (
        grind (arith, nat_tests, e),
        ap (λ n. (get_or (a.books ++ empty_book key ∷ []) n (empty_book global_key)).key) at
            ∙ ap (λ (x : BookView). x.key) (get_or-append_seam a.books (empty_book key) [] (empty_book global_key)),
      )

  -- and leaves all else
  pub spares-opening : Spares a (opening key a)
  spares-opening = record {
    sessions = λ w. refl;
    keys = λ place has. (
        let h = within place (length a.books) has in
        let e = longer in
        let same = get_or_append_left a.books (empty_book key ∷ []) (empty_book global_key) (place - 1) (omega (arith, h.0, h.1)) in (
          grind (arith, nat_tests, h.0, h.1, e),
          ap (λ (x : BookView). x.key) same,
          λ some. subst (λ (x : BookView). x.standing.version ≢ 0) (sym same) some,
        ));
    seats = λ w is. record { own = refl; numbers = refl; settled = λ how settled. settled };
  }

-- ---- a place that gets another key

module _ (a : Core) (place : ℕ) (key : KeyName) (has : has_key place a ≡ true) where
  -- it has it then
  pub placed-keyed : (has_key place (placing_at place key a) ≡ true) × (key_at place (placing_at place key a) ≡ key)
  placed-keyed = (has_key-booking a place place (empty_book key) ∙ has, ap (λ (x : BookView). x.key) (booked-same a place (empty_book key) has))

  -- and places that are in use keep theirs
  pub keeps-placing : is_in_use place a ≡ false → (other : ℕ) → has_key other a ≡ true → is_in_use other a ≡ true → KeepsKey a (placing_at place key a) other
  keeps-placing unused other there used =
      let apart : other ≢ place = λ e. false≢true (sym unused ∙ ap (λ p. is_in_use p a) (sym e) ∙ used) in
      let same = booked-other a place other (empty_book key) has there apart in (
        has_key-booking a place other (empty_book key) ∙ there,
        ap (λ (x : BookView). x.key) same,
        λ some. subst (λ (x : BookView). x.standing.version ≢ 0) (sym same) some,
      )

-- ---- the place of a wait

-- the place of a wait is pinned, and has a key
pub wait_pinned : (a : Core) (who : ℕ) (wait : Pending) → IsTied a → has_session who a ≡ true → (seat_at who a).wait ≡ Some wait
    → has_pin who wait.place a ≡ true
wait_pinned a who wait tied is its = tied.placed who (ticket_of_wait wait) is (waits-ticket (seat_at who a) wait its)

pub wait_placed : (a : Core) (who : ℕ) (wait : Pending) → IsTied a → has_session who a ≡ true → (seat_at who a).wait ≡ Some wait → has_key wait.place a ≡ true
wait_placed a who wait tied is its = tied.pinned who wait.place is (wait_pinned a who wait tied is its)

-- ---- laws of a space

-- a place has one key
pub core-one_key : (a : Core) (w place : ℕ) (key other : KeyName) → SpeaksFor a w → Knows a w place key → Knows a w place other → key ≡ other
core-one_key a w place key other speaks one two = sym one.1 ∙ two.1

-- a key has one place
pub core-one_place : (a : Core) (w place other : ℕ) (key : KeyName) → SpeaksFor a w → Knows a w place key → Knows a w other key → place ≡ other
core-one_place a w place other key speaks one two = speaks.1.tied.keys place other one.0 two.0 (one.1 ∙ sym two.1)

-- pinned places rise
pub core-pins_rise : (a : Core) (w : ℕ) → SpeaksFor a w → are_rising_places (locks_at a w).pins ≡ true
core-pins_rise a w speaks = speaks.1.tied.in_order w speaks.0

-- whoever pins a place knows its key
pub core-pinned_known : (a : Core) (w place : ℕ) → SpeaksFor a w → is_pinned place (locks_at a w) ≡ true → (key : KeyName) × Knows a w place key
core-pinned_known a w place speaks pins = (key_at place a, (speaks.1.tied.pinned w place speaks.0 pins, refl, inl pins))

-- whoever holds a ticket pins its place
pub core-held_pinned : (a : Core) (w : ℕ) (ticket : Held) → SpeaksFor a w → Contains (locks_at a w).held ticket
    → is_pinned ticket.place (locks_at a w) ≡ true
core-held_pinned a w ticket speaks holds = speaks.1.tied.placed w ticket speaks.0 (inl (inl holds))

-- whoever waits pins the place that is waited for
pub core-wait_pinned : (a : Core) (w : ℕ) (wait : Wait) → SpeaksFor a w → (locks_at a w).wait ≡ Some wait
    → is_pinned wait.place (locks_at a w) ≡ true
core-wait_pinned a w wait speaks = go (seat_at w a).wait refl
  where
    go : (o : Option Pending) → (seat_at w a).wait ≡ o → option_map as_wait o ≡ Some wait → is_pinned wait.place (locks_at a w) ≡ true
    go None its e = cc
    go (Some pending) its e =
        let same : as_wait pending ≡ wait = cc in
        subst (λ (x : Wait). is_pinned x.place (locks_at a w) ≡ true) same (wait_pinned a w pending speaks.1.tied speaks.0 its)

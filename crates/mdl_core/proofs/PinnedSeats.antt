-- The space after a session pinned a place, or gave up a pin: but for the session's pins it is as it was.
use Rattle.std.proofs.Common.{◌≡◌, ◌≢◌, ◌⊎◌, ◌↔◌, ℕ, zero, suc, ◌+◌, ◌-◌, true, false, List, [], ◌∷◌, ◌++◌, Option, Some, None, inl, inr, refl, sym, ap, subst, ◌∙◌, arith}
use Rattle.std.specs.Prelude.{Contains, flat_map, length, map, slice_set, slice_index_or}
use Rattle.std.specs.Option.{option_to_list}
use Rattle.std.proofs.lemmas.Bool.{false≢true}
use Rattle.std.proofs.lemmas.List.{get_or-set_same, get_or-set_other}
use Rattle.mdl_book.specs.declared.ticket.Ticket.{Ticket}
use Rattle.mdl_key.specs.Keys.{KeyName}
use Rattle.mdl_calls.specs.declared.answers.Held.{Held}
use Rattle.mdl_calls.specs.SessionLocks.{are_rising_places, is_pinned, with_place, without_place}
use Rattle.mdl_calls.proofs.PinLemmas.{is_among, with-keeps, with-told, with-rise, without-keeps, without-told, without-rise}
use Rattle.mdl_core.specs.CoreCalls.{is_needed}
use Rattle.mdl_core.specs.Cores.{Core, book_at, seat_at, has_key, has_pin, has_session, index_of, seating}
use Rattle.mdl_core.specs.CoreSystems.{book_found, defined_in, granted_in, system_of, system_waiter, unended_from, unended_of, waiter_in}
use Rattle.mdl_core.specs.Seats.{SeatView, empty_seat, locks_of_seat}
use Rattle.mdl_core.specs.Ties.{Awaits, HasGrantedTicket, HasRisingNumbers, IsTied, in_book_of}
use Rattle.mdl_core.proofs.CoreReads.{within, has_session-seating, seated-same, seated-other}
use Rattle.mdl_core.proofs.NeededPlaces.{ticket-needs}
use Rattle.mdl_system.proofs.Deciding.{nat_told}

-- ---- seats

-- a seat with other pins
abbrev pub repinned : List ℕ → SeatView → SeatView
repinned pins seat = record seat { pins = pins }

-- the space in which a session pins these places
abbrev pub repinning : ℕ → List ℕ → Core → Core
repinning who pins core = seating who (repinned pins (seat_at who core)) core

-- a seat but for its pins
abbrev pub bare : SeatView → SeatView
bare seat = record seat { pins = [] }

-- waits that aren't ended are those that they were after a seat with the same wait was written
unended-set : (who : ℕ) (seats : List SeatView) (index : ℕ) (seat : SeatView) → bare seat ≡ bare (slice_index_or seats index empty_seat)
    → unended_from who (slice_set seats index seat) ≡ unended_from who seats
unended-set who [] index seat same = refl
unended-set who (first ∷ later) zero seat same =
    ap (λ (s : SeatView). option_to_list (unended_of who s.wait) ++ unended_from (who + 1) later) same
unended-set who (first ∷ later) (suc index) seat same =
    ap (λ waits. option_to_list (unended_of who first.wait) ++ waits) (unended-set (who + 1) later index seat same)

-- a session can pin these places instead of those that it pins: they rise, each has a key, and its tickets and its wait are at some of them
pub record MayPin (core : Core) (who : ℕ) (pins : List ℕ) : Type 0 where
  pub rising : are_rising_places pins ≡ true
  pub keyed : (place : ℕ) → is_among place pins ≡ true → has_key place core ≡ true
  pub kept : (ticket : Held) → HasGrantedTicket (seat_at who core) ticket ⊎ Awaits (seat_at who core) ticket → is_among ticket.place pins ≡ true

module _ (core : Core) (who : ℕ) (pins : List ℕ) where
  pub has_session-repinning : (other : ℕ) → has_session other (repinning who pins core) ≡ has_session other core
  has_session-repinning other = has_session-seating core who other (repinned pins (seat_at who core))

module _ (core : Core) (who : ℕ) (pins : List ℕ) (session : has_session who core ≡ true) where
  abbrev after : Core
  after = repinning who pins core

  -- the session's own seat
  pub repinned-same : seat_at who after ≡ repinned pins (seat_at who core)
  repinned-same = seated-same core who (repinned pins (seat_at who core)) session

  -- another's
  pub repinned-other : (other : ℕ) → has_session other core ≡ true → other ≢ who → seat_at other after ≡ seat_at other core
  repinned-other other is apart = seated-other core who other (repinned pins (seat_at who core)) session is apart

  -- all seats are as they were but for pins, whatever numbers they have
  pub repinned-bare : (other : ℕ) → bare (seat_at other after) ≡ bare (seat_at other core)
  repinned-bare other =
      let seat = repinned pins (seat_at who core) in
      let fits = within who (length core.seats) session in
      elim (nat_told (other - 1) (who - 1)) [
        | inl here ↦ subst (λ i. bare (slice_index_or (slice_set core.seats (who - 1) seat) i empty_seat) ≡ bare (slice_index_or core.seats i empty_seat)) (sym here)
            (ap bare (get_or-set_same core.seats (who - 1) seat empty_seat (omega arith)))
        | inr apart ↦ ap bare (get_or-set_other core.seats (who - 1) (other - 1) seat empty_seat (λ e. apart (omega arith)))
      ]

  -- so the system is as it was
  pub system-repinning : system_of after ≡ system_of core
  system-repinning = λ i. record {
    granted = flat_map granted_in core.books;
    waiting = λ key. map (λ ticket. waiter ticket i) (books (index_of key core.books) key i).waiting;
    unended = unended-set 1 core.seats (who - 1) (repinned pins (seat_at who core)) refl i;
    definitions = λ key. defined_in (books (index_of key core.books) key i);
  }
    where
      waiter : (ticket : Ticket) → waiter_in after ticket ≡ waiter_in core ticket
      waiter ticket = ap (λ (seat : SeatView). system_waiter ticket seat.wait) (repinned-bare ticket.session)

      books : (index : Option ℕ) (key : KeyName) → book_found key index after ≡ book_found key index core
      books None key = refl
      books (Some index) key = refl

  -- and the books and the seats agree
  pub tied-repinning : IsTied core → MayPin core who pins → IsTied after
  tied-repinning tied may = record {
    keys = tied.keys;
    granted_by = λ other has ticket among. (let h = tied.granted_by other has ticket among in (has_session-repinning core who pins ticket.session ∙ h.0, h.1));
    waiting_by = λ other has ticket among. (let h = tied.waiting_by other has ticket among in (has_session-repinning core who pins ticket.session ∙ h.0, h.1));
    granted = λ other ticket is has.
        by (λ s. Contains (book_at ticket.place core).granted (in_book_of other ticket) ↔ HasGrantedTicket s ticket) other
        (tied.granted other ticket (was other is) has);
    waiting = λ other ticket is has.
        by (λ s. Contains (book_at ticket.place core).waiting (in_book_of other ticket) ↔ Awaits s ticket) other
        (tied.waiting other ticket (was other is) has);
    placed = λ other ticket is has. elim (nat_told other who) [
      | inl own ↦ (
          let mine : HasGrantedTicket (seat_at who core) ticket ⊎ Awaits (seat_at who core) ticket =
          subst (λ w. HasGrantedTicket (seat_at w core) ticket ⊎ Awaits (seat_at w core) ticket) own (had other ticket has) in
          subst (λ w. has_pin w ticket.place after ≡ true) (sym own)
          (ap (λ (s : SeatView). is_among ticket.place s.pins) repinned-same ∙ may.kept ticket mine))
      | inr apart ↦ subst (λ s. is_pinned ticket.place (locks_of_seat s) ≡ true) (sym (repinned-other other (was other is) apart))
          (tied.placed other ticket (was other is) (had other ticket has))
    ];
    granted_once = tied.granted_once;
    waiting_once = tied.waiting_once;
    numbered = λ other is.
        as_bare (seat_at other after)
        (subst HasRisingNumbers (sym (repinned-bare other)) (to_bare (seat_at other core) (tied.numbered other (was other is))));
    pinned = λ other at is pinned. elim (nat_told other who) [
      | inl own ↦ may.keyed at
          (ap (λ (s : SeatView). is_among at s.pins) (sym repinned-same) ∙ subst (λ w. has_pin w at after ≡ true) own pinned)
      | inr apart ↦ tied.pinned other at (was other is) (subst (λ s. is_pinned at (locks_of_seat s) ≡ true) (repinned-other other (was other is) apart) pinned)
    ];
    in_order = λ other is. elim (nat_told other who) [
      | inl own ↦ subst (λ w. are_rising_places (seat_at w after).pins ≡ true) (sym own)
          (ap (λ (s : SeatView). are_rising_places s.pins) repinned-same ∙ may.rising)
      | inr apart ↦ subst (λ (s : SeatView). are_rising_places s.pins ≡ true) (sym (repinned-other other (was other is) apart))
          (tied.in_order other (was other is))
    ];
  }
    where
      was : (other : ℕ) → has_session other after ≡ true → has_session other core ≡ true
      was other is = sym (has_session-repinning core who pins other) ∙ is

      by : (P : SeatView → Type 0) (other : ℕ) → P (bare (seat_at other core)) → P (bare (seat_at other after))
      by P other so = subst P (sym (repinned-bare other)) so

      had : (other : ℕ) (ticket : Held) → HasGrantedTicket (seat_at other after) ticket ⊎ Awaits (seat_at other after) ticket
          → HasGrantedTicket (seat_at other core) ticket ⊎ Awaits (seat_at other core) ticket
      had other ticket has = subst (λ s. HasGrantedTicket s ticket ⊎ Awaits s ticket) (repinned-bare other) has

      to_bare : (seat : SeatView) → HasRisingNumbers seat → HasRisingNumbers (bare seat)
      to_bare seat numbers = record { rising = numbers.rising; held = numbers.held; wait = numbers.wait }

      as_bare : (seat : SeatView) → HasRisingNumbers (bare seat) → HasRisingNumbers seat
      as_bare seat numbers = record { rising = numbers.rising; held = numbers.held; wait = numbers.wait }

-- ---- one place more, and one fewer

module _ (core : Core) (who place : ℕ) (tied : IsTied core) (session : has_session who core ≡ true) where
  abbrev pins : List ℕ
  pins = (seat_at who core).pins

  pub may-pin : has_key place core ≡ true → MayPin core who (with_place place pins)
  may-pin key = record {
    rising = with-rise place pins (tied.in_order who session);
    keyed = λ other among. elim (with-told other place pins among) [
      | inl new ↦ subst (λ p. has_key p core ≡ true) (sym new) key
      | inr old ↦ tied.pinned who other session old
    ];
    kept = λ ticket has. with-keeps ticket.place place pins (tied.placed who ticket session has);
  }

  pub may-unpin : is_needed who place core ≡ false → MayPin core who (without_place place pins)
  may-unpin unneeded = record {
    rising = without-rise place pins (tied.in_order who session);
    keyed = λ other among. tied.pinned who other session (without-told other place pins among);
    kept = λ ticket has.
        without-keeps ticket.place place pins (λ here. false≢true (sym unneeded ∙ ticket-needs core who place ticket has here))
        (tied.placed who ticket session has);
  }

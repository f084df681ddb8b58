-- Books and sessions tell the same after each change.
use Rattle.std.proofs.Common.{◌≡◌, ◌≢◌, ◌⊎◌, ◌↔◌, ℕ, ◌-◌, Bool, true, inl, inr, List, [], ◌∷◌, ◌++◌, Some, refl, sym, ap, subst, ◌∙◌, arith}
use Rattle.std.specs.Prelude.{Contains}
use Rattle.std.specs.List.{before_first, after_first}
use Rattle.std.specs.Option.{option_map, option_to_list}
use Rattle.std.proofs.lemmas.Bool.Decides.{nat_tests}
use Rattle.std.proofs.lemmas.List.{set-get_or}
use Rattle.mdl_key.specs.Keys.{global_key}
use Rattle.mdl_key.specs.declared.mode.Mode.{Mode}
use Rattle.mdl_book.specs.declared.book_view.BookView.{BookView}
use Rattle.mdl_book.specs.declared.ticket.Ticket.{Ticket}
use Rattle.mdl_book.specs.Books.{empty_book, lock_kind}
use Rattle.mdl_book.specs.Tickets.{is_ticket, ticket_id, ticket_of, without, in_mode, with_mode}
use Rattle.mdl_defs.specs.VersionedDefinitions.{MayStand}
use Rattle.mdl_defs.proofs.VersionedDefinitionLemmas.{changes-keep_standing}
use Rattle.mdl_calls.specs.declared.answers.Held.{Held}
use Rattle.mdl_core.specs.Changes.{Change, Gain, Lose, Queue, Admit, Settle, Leave, Take_up, Alter, Fold, Redefine, seat_after, book_after, after_change, Allows, May}
use Rattle.mdl_core.specs.Cores.{Core, book_at, seat_at, key_at, standing_at, booking, seating}
use Rattle.mdl_core.specs.Seats.{SeatView, held_in_mode, ticket_of_wait}
use Rattle.mdl_core.specs.Ties.{HasGrantedTicket, Awaits, in_book_of, IsTied, AllMayStand}
use Rattle.mdl_core.proofs.ChangeSeats.{wait_turned, has_effect, wait_effect, MayBe, Makes, Fitting, SeatMade, merged_numbers, seat-made}
use Rattle.mdl_core.proofs.Effects.{Effect, Stays, Comes, Goes, Turns, Unites, Becomes, InOrder, Each, mapped, through, back, each-also, each-mapped, after-other, after-mapped, Joins, order-members, order-pairs}
use Rattle.mdl_core.proofs.PairLemmas.{split-at}
use Rattle.mdl_core.proofs.TiedWrites.{held_at, as-held, granted-here, waiting-here, Follows, had_key, at_place, tied-written}
use Rattle.mdl_system.proofs.MemberLemmas.{AreApart, find-named}
use Rattle.mdl_system.specs.Events.{LeavesOrder, TakesTurn}

-- ---- a list of a book, by the effect

-- what becomes of a list of the place's book, and with it of what the session has there
pub record ListMade {N : Type 0} (name : Ticket → N) (who place : ℕ) (fits : Held → Type 0) (effect : Effect Held) (old new : List Ticket) (had has : Held → Type 0) : Type 0 where
  pub order : InOrder (mapped (in_book_of who) effect) old new
  pub members : Becomes (mapped (in_book_of who) effect) (Contains old) (Contains new)
  pub joins : Joins (λ (one other : Ticket). name one ≢ name other) (mapped (in_book_of who) effect) old
  pub apart : AreApart name new
  pub follows : Follows who place old new had has
  pub fit : (ticket : Held) → has ticket → had ticket ⊎ fits ticket

module _ {N : Type 0} (name : Ticket → N) (told : (one other : Ticket) → name one ≡ name other → one.session ≡ other.session)
    (who place : ℕ) (fits : Held → Type 0) (old new : List Ticket) (had has : Held → Type 0) (apart : AreApart name old)
    (before : (ticket : Held) → ticket.place ≡ place → Contains old (in_book_of who ticket) ↔ had ticket) where
  joining : (effect : Effect Held) → Each (λ (h : Held). h.place ≡ place) effect → MayBe name who fits had effect
      → Joins (λ (one other : Ticket). name one ≢ name other) (mapped (in_book_of who) effect) old
  joining Stays at may = tt
  joining (Comes new) at may = λ ticket among e.
      let own : ticket.session ≡ who = told ticket (in_book_of who new) e in
      let is : in_book_of who (held_at place ticket) ≡ ticket = λ i. record { session = sym own i; number = ticket.number; mode = ticket.mode } in
      may.1 (held_at place ticket) ((before (held_at place ticket) refl).0 (as-held old who place ticket own among)) (ap name is ∙ e)
  joining (Goes old) at may = tt
  joining (Unites gone old new) at may = (λ x n e. n (sym may.3 ∙ e), λ x n e. n (e ∙ may.3))
  joining (Turns old new) at may = (λ x n e. n (sym may.2 ∙ e), λ x n e. n (e ∙ may.2))

  fitting : (effect : Effect Held) → Becomes effect had has → MayBe name who fits had effect → (ticket : Held) → has ticket → had ticket ⊎ fits ticket
  fitting Stays becomes may ticket now = inl ((becomes ticket).0 now)
  fitting (Comes new) becomes may ticket now = elim ((becomes ticket).0 now) [ inl was ↦ inl was | inr e ↦ inr (subst fits (sym e) may.0) ]
  fitting (Goes old) becomes may ticket now = inl ((becomes ticket).0 now).0
  fitting (Unites gone old new) becomes may ticket now = elim ((becomes ticket).0 now) [ inl was ↦ inl was.0.0 | inr e ↦ inr (subst fits (sym e) may.2) ]
  fitting (Turns old new) becomes may ticket now = elim ((becomes ticket).0 now) [ inl was ↦ inl was.0 | inr e ↦ inr (subst fits (sym e) may.1) ]

  -- a session's ticket is in the book as that and no other
  one-held : (x ticket : Held) → x.place ≡ place → ticket.place ≡ place → in_book_of who x ≡ in_book_of who ticket → x ≡ ticket
  one-held x ticket here there e = λ i. record { id = (e i).number; place = (here ∙ sym there) i; mode = (e i).mode }

  list-made : (effect : Effect Held) → Makes name who place fits effect had has → InOrder (mapped (in_book_of who) effect) old new
      → ListMade name who place fits effect old new had has
  list-made effect makes order =
      let members : Becomes (mapped (in_book_of who) effect) (Contains old) (Contains new) = order-members name (mapped (in_book_of who) effect) old new apart order in
      let joins = joining effect makes.at makes.may in
      record {
        order = order;
        members = members;
        joins = joins;
        apart = order-pairs (λ (one other : Ticket). name one ≢ name other) (mapped (in_book_of who) effect) old new joins apart order;
        follows = record {
          others = λ ticket other. through (members ticket) (after-other ticket (Contains old ticket) (mapped (in_book_of who) effect)
              (each-mapped (λ (y : Ticket). ticket ≢ y) (in_book_of who) (λ x e. other (ap (λ (t : Ticket). t.session) e)) effect));
          here = λ ticket here. through (members (in_book_of who ticket))
              (through (after-mapped (in_book_of who) ticket (Contains old (in_book_of who ticket)) (had ticket) effect
              (each-also (λ (h : Held). h.place ≡ place) (λ y. in_book_of who ticket ≡ in_book_of who y → ticket ≡ y) (λ y there e. one-held ticket y here there e) effect makes.at)
              (before ticket here)) (back (makes.becomes ticket)));
          elsewhere = λ ticket there. through (makes.becomes ticket) (after-other ticket (had ticket) effect
              (each-also (λ (h : Held). h.place ≡ place) (λ y. ticket ≢ y) (λ y at e. there (ap (λ (h : Held). h.place) e ∙ at)) effect makes.at));
        };
        fit = fitting effect makes.becomes makes.may;
      }

-- ---- a ticket among others

is-that : (session number : ℕ) (ticket : Ticket) → is_ticket session number ticket ≡ true → (ticket.session ≡ session) × (ticket.number ≡ number)
is-that session number ticket e = (grind (arith, nat_tests), grind (arith, nat_tests))

that-is : (ticket : Ticket) → is_ticket ticket.session ticket.number ticket ≡ true
that-is ticket = grind (arith, nat_tests)

-- two tickets of a session and number have one name
abbrev Names : {N : Type 0} → (Ticket → N) → Type 0
Names name = (one other : Ticket) → (other.session ≡ one.session) × (other.number ≡ one.number) → name other ≡ name one

module _ {N : Type 0} (name : Ticket → N) (names : Names name) (list : List Ticket) (apart : AreApart name list) (ticket : Ticket) (among : Contains list ticket) where
  abbrev test : Ticket → Bool
  test = is_ticket ticket.session ticket.number

  named : (other : Ticket) → test other ≡ true → name other ≡ name ticket
  named other passes = names ticket other (is-that ticket.session ticket.number other passes)

  leaves : LeavesOrder ticket list (without ticket.session ticket.number list)
  leaves = (before_first test list, after_first test list, split-at name test ticket (that-is ticket) named list apart among, refl)

  finds : ticket_of ticket.session ticket.number list ≡ Some ticket
  finds = find-named name test ticket (that-is ticket) named list apart among

  turns : (mode : Mode) → TakesTurn ticket (in_mode mode ticket) list (with_mode ticket.session ticket.number mode list)
  turns mode = (
    before_first test list,
    after_first test list,
    split-at name test ticket (that-is ticket) named list apart among,
    ap (λ o. before_first test list ++ (option_to_list (option_map (in_mode mode) o) ++ after_first test list)) finds,
  )

-- ---- the book

abbrev pub session_of : Ticket → ℕ
session_of ticket = ticket.session

by-number : Names ticket_id
by-number one other e = λ i. (e.0 i, e.1 i)

by-session : Names session_of
by-session one other e = e.0

-- what a change makes of the book
pub record BookMade (core : Core) (who place : ℕ) (change : Change) (seat : SeatView) (old new : BookView) : Type 0 where
  pub written : after_change who place change core ≡ booking place new (seating who (seat_after place change seat) core)
  pub key : new.key ≡ old.key
  pub granted : InOrder (mapped (in_book_of who) (has_effect place change seat)) old.granted new.granted
  pub waiting : InOrder (mapped (in_book_of who) (wait_effect place change seat)) old.waiting new.waiting

module _ (core : Core) (who place : ℕ) (tied : IsTied core) where
  abbrev seat : SeatView
  seat = seat_at who core

  abbrev book : BookView
  book = book_at place core

  -- where the book stays
  seat-only : (now : SeatView) → seating who now core ≡ booking place book (seating who now core)
  seat-only now = λ i. record (seating who now core) { books = sym (set-get_or core.books (place - 1) (empty_book global_key)) i }

  book-made : (change : Change) → May who place change core → SeatMade who place (lock_kind book) change seat
      → BookMade core who place change seat book (book_after who seat change book)
  book-made change may seats = made change may.allows seats
    where
      -- a ticket that the session has, or waits for
      gives_up : (ticket : Held) → ticket.place ≡ place → HasGrantedTicket seat ticket → LeavesOrder (in_book_of who ticket) book.granted (without who ticket.id book.granted)
      gives_up ticket at has = leaves ticket_id by-number book.granted (tied.granted_once place may.key) (in_book_of who ticket)
          ((granted-here core who place tied may.session may.key ticket at).1 has)

      turns_there : (ticket : Held) (mode : Mode) → ticket.place ≡ place → HasGrantedTicket seat ticket
          → TakesTurn (in_book_of who ticket) (in_book_of who (held_in_mode mode ticket)) book.granted (with_mode who ticket.id mode book.granted)
      turns_there ticket mode at has = turns ticket_id by-number book.granted (tied.granted_once place may.key) (in_book_of who ticket)
          ((granted-here core who place tied may.session may.key ticket at).1 has) mode

      waits_there : (ticket : Held) → ticket.place ≡ place → Awaits seat ticket → LeavesOrder (in_book_of who ticket) book.waiting (without who ticket.id book.waiting)
      waits_there ticket at waits = leaves session_of by-session book.waiting (tied.waiting_once place may.key) (in_book_of who ticket)
          ((waiting-here core who place tied may.session may.key ticket at).1 waits)

      made : (change : Change) → Allows who place change seat book → SeatMade who place (lock_kind book) change seat
          → BookMade core who place change seat book (book_after who seat change book)
      made (Gain mode) allows seats = record { written = refl; key = refl; granted = refl; waiting = refl }
      made (Lose ticket) allows seats = record { written = refl; key = refl; granted = gives_up ticket seats.has.at seats.has.may; waiting = refl }
      made (Queue mode) allows seats = record { written = refl; key = refl; granted = refl; waiting = refl }
      made (Admit ticket) allows seats = record {
        written = refl;
        key = refl;
        granted = ap (λ o. book.granted ++ option_to_list o) (finds session_of by-session book.waiting (tied.waiting_once place may.key) ticket allows.0)
            ∙ (λ i. book.granted ++ record { session = allows.1 i; number = ticket.number; mode = ticket.mode } ∷ []);
        waiting = subst (λ (w : ℕ). LeavesOrder (in_book_of w (held_at place ticket)) book.waiting (without ticket.session ticket.number book.waiting))
            allows.1 (leaves session_of by-session book.waiting (tied.waiting_once place may.key) ticket allows.0);
      }
      made (Settle how) allows seats =
          let wait = allows.0 in
          let turned : MayBe session_of who (Fitting (lock_kind book) seat) (Awaits seat) (wait_turned (Some wait.0)) =
          subst (λ o. MayBe session_of who (Fitting (lock_kind book) seat) (Awaits seat) (wait_turned o)) wait.1 seats.waits.may in
          let there = waits_there (ticket_of_wait wait.0) wait.3 turned.0 in
          record {
            written = seat-only (seat_after place (Settle how) seat);
            key = refl;
            granted = refl;
            waiting = subst (λ o. InOrder (mapped (in_book_of who) (wait_turned o)) book.waiting book.waiting) (sym wait.1) (there.0, there.1, there.2, there.2);
          }
      made (Leave wait) allows seats = record { written = refl; key = refl; granted = refl; waiting = waits_there (ticket_of_wait wait) seats.waits.at seats.waits.may }
      made (Take_up wait) allows seats = record { written = seat-only (seat_after place (Take_up wait) seat); key = refl; granted = refl; waiting = refl }
      made (Alter ticket mode) allows seats =
          record { written = refl; key = refl; granted = turns_there ticket mode seats.has.at.0 seats.has.may.0; waiting = refl }
      made (Fold old new) allows seats =
          let gone = gives_up new seats.has.at.0 seats.has.may.0 in
          let left = without who new.id book.granted in
          let there = (granted-here core who place tied may.session may.key old allows.3).1 seats.has.may.1 in
          let kept : Contains left (in_book_of who old) = (order-members ticket_id (Goes (in_book_of who new)) book.granted left (tied.granted_once place may.key) gone (in_book_of who old)).1
          (there, λ e. merged_numbers old new allows.5 (ap (λ (t : Ticket). t.number) e)) in
          let apart = order-pairs (λ (one other : Ticket). ticket_id one ≢ ticket_id other) (Goes (in_book_of who new)) book.granted left tt (tied.granted_once place may.key) gone in
          record { written = refl; key = refl; granted = (left, gone, turns ticket_id by-number left apart (in_book_of who old) kept new.mode); waiting = refl }
      made (Redefine ticket change) allows seats = record { written = refl; key = refl; granted = refl; waiting = refl }

-- ---- all of it

-- what a change makes of the seat and of both lists of the book
pub record Made (core : Core) (who place : ℕ) (change : Change) (seat : SeatView) (old new : BookView) : Type 0 where
  pub seats : SeatMade who place (lock_kind old) change seat
  pub books : BookMade core who place change seat old new
  pub granted : ListMade ticket_id who place (Fitting (lock_kind old) seat) (has_effect place change seat) old.granted new.granted (HasGrantedTicket seat) (HasGrantedTicket (seat_after place change seat))
  pub waiting : ListMade session_of who place (Fitting (lock_kind old) seat) (wait_effect place change seat) old.waiting new.waiting (Awaits seat) (Awaits (seat_after place change seat))

-- a change that may be made does all that
pub made : (core : Core) (who place : ℕ) (change : Change) → IsTied core → May who place change core
    → Made core who place change (seat_at who core) (book_at place core) (book_after who (seat_at who core) change (book_at place core))
made core who place change tied may =
    let seats = seat-made core who place tied change may in
    let books = book-made core who place tied change may seats in
    record {
      seats = seats;
      books = books;
      granted = list-made ticket_id (λ one other e. ap (λ (id : ℕ × ℕ). id.0) e) who place _ _ _ _ _ (tied.granted_once place may.key)
          (granted-here core who place tied may.session may.key) (has_effect place change (seat_at who core)) seats.has books.granted;
      waiting = list-made session_of (λ one other e. e) who place _ _ _ _ _ (tied.waiting_once place may.key)
          (waiting-here core who place tied may.session may.key) (wait_effect place change (seat_at who core)) seats.waits books.waiting;
    }

-- a session pins what it pinned
pins_after : (place : ℕ) (change : Change) (seat : SeatView) → (seat_after place change seat).pins ≡ seat.pins
pins_after place (Gain mode) was = refl
pins_after place (Lose ticket) was = refl
pins_after place (Queue mode) was = refl
pins_after place (Admit ticket) was = refl
pins_after place (Settle how) was = refl
pins_after place (Leave wait) was = refl
pins_after place (Take_up wait) was = refl
pins_after place (Alter ticket mode) was = refl
pins_after place (Fold old new) was = refl
pins_after place (Redefine ticket change) was = refl

-- what is tied stays so
pub tied-changing : (core : Core) (who place : ℕ) (change : Change) → IsTied core → May who place change core → IsTied (after_change who place change core)
tied-changing core who place change tied may =
    let is = made core who place change tied may in
    let seat = seat_at who core in
    subst IsTied (sym is.books.written)
    (tied-written core who place (book_after who seat change (book_at place core)) (seat_after place change seat) may.session may.key tied (record {
      same_key = is.books.key;
      granted = is.granted.follows;
      waiting = is.waiting.follows;
      mode = λ ticket now. elim now [
        | inl has ↦ elim (is.granted.fit ticket has) [ inl had ↦ inl (inl had) | inr fits ↦ fits ]
        | inr waits ↦ elim (is.waiting.fit ticket waits) [ inl waited ↦ inl (inr waited) | inr fits ↦ fits ]
      ];
      granted_once = is.granted.apart;
      waiting_once = is.waiting.apart;
      numbered = is.seats.numbered;
      pin = may.pin;
      pins = pins_after place change seat;
    }))

-- and what stands under a key may stand there
pub stands-changing : (core : Core) (who place : ℕ) (change : Change) → IsTied core → May who place change core → AllMayStand core → AllMayStand (after_change who place change core)
stands-changing core who place change tied may stand =
    let is = made core who place change tied may in
    let seat = seat_after place change (seat_at who core) in
    let book = book_after who (seat_at who core) change (book_at place core) in
    subst AllMayStand (sym is.books.written) (λ other has.
    at_place core who place book seat may.session may.key (λ p (b : BookView). MayStand b.key.namespace b.standing) (by change may.allows) (λ p there _. stand p there)
    other (had_key core who place book seat may.session may.key other has))
  where
    by : (change : Change) → Allows who place change (seat_at who core) (book_at place core)
        → let book = book_after who (seat_at who core) change (book_at place core) in MayStand book.key.namespace book.standing
    by (Redefine ticket change) allows = changes-keep_standing (key_at place core).namespace (standing_at place core) change (stand place may.key) allows.3
    by (Gain mode) allows = stand place may.key
    by _ allows = stand place may.key

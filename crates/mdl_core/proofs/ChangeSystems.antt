-- What each change makes of the system of locks: of its granted tickets, of those that wait, of the granted waits that aren't
-- ended, and of what is defined.
use Rattle.std.proofs.Common.{◌≡◌, ◌≢◌, ◌↔◌, ℕ, true, inl, inr, map, Option, refl, sym, ap, subst, ◌∙◌}
use Rattle.std.specs.Prelude.{Contains}
use Rattle.mdl_key.specs.Keys.{KeyName}
use Rattle.mdl_book.specs.declared.book_view.BookView.{BookView}
use Rattle.mdl_book.specs.declared.ticket.Ticket.{Ticket}
use Rattle.mdl_calls.specs.declared.answers.Held.{Held}
use Rattle.mdl_core.specs.declared.pending.Pending.{Pending}
use Rattle.mdl_core.specs.Changes.{Change, seat_after, book_after, after_change, May}
use Rattle.mdl_core.specs.Cores.{Core, book_at, seat_at, key_at, has_key, has_session, seating}
use Rattle.mdl_core.specs.CoreSystems.{book_of, system_waiter, waiter_in, defined_in, system_of}
use Rattle.mdl_core.specs.Seats.{SeatView}
use Rattle.mdl_core.specs.Ties.{Awaits, in_book_of, IsTied}
use Rattle.mdl_core.proofs.ChangeSeats.{has_effect, wait_effect, unended_effect, Unended}
use Rattle.mdl_core.proofs.ChangeTies.{session_of, made, tied-changing}
use Rattle.mdl_core.proofs.CoreGranted.{by_lists}
use Rattle.mdl_core.proofs.CoreReads.{has_key-booking, booked-same, booked-other, seated-same}
use Rattle.mdl_core.proofs.CoreUnended.{own-unended, others-unended, seated-unended}
use Rattle.mdl_core.proofs.CoreWaiting.{book-there, place_told, book-nowhere, not_there, ticket-there}
use Rattle.mdl_core.proofs.Effects.{Effect, After, Becomes, InOrder, Each, turned, mapped, turned-mapped, through, back, each-all, each-also, each-unmapped, each-mapped, after-other, after-like, after-mapped, Joins, order-mapped}
use Rattle.mdl_core.proofs.PairLemmas.{map-agree}
use Rattle.mdl_system.specs.Words.{in_book, of_lock, SameElsewhere, SameAt, Holding, Waiter, GrantedWait}
use Rattle.mdl_system.proofs.Deciding.{nat_told, key_told}
use Rattle.mdl_system.proofs.MemberLemmas.{AreApart}
use Rattle.mdl_core.proofs.TiedWrites.{held_at, waiting-own, written, had_key, at_session, key-same}

-- ---- after a book and a seat were written

-- a ticket of a session with this wait, as a waiter
abbrev pub waits_as : ℕ → Option Pending → Held → Waiter
waits_as who wait ticket = system_waiter (in_book_of who ticket) wait

module _ (core : Core) (who place : ℕ) (seat : SeatView) (book : BookView) (tied : IsTied core) (session : has_session who core ≡ true) (key : has_key place core ≡ true)
    (same_key : book.key ≡ key_at place core) (after : IsTied (written core who place book seat session key)) where
  abbrev now : Core
  now = written core who place book seat session key

  abbrev here : KeyName
  here = key_at place core

  -- each place with a key has it still
  still : (other : ℕ) → has_key other core ≡ true → has_key other now ≡ true
  still other has = has_key-booking (seating who seat core) place other book ∙ has

  same : (other : ℕ) → has_key other core ≡ true → key_at other now ≡ key_at other core
  same = key-same core who place book seat session key same_key

  -- the key of the place has the new book, and others have theirs
  book-now : book_of here now ≡ book
  book-now = book-there now place here after.keys (still place key) (same place key) ∙ booked-same (seating who seat core) place book key

  book-then : book_of here core ≡ book_at place core
  book-then = book-there core place here tied.keys key refl

  book-other : (other : KeyName) → other ≢ here → book_of other now ≡ book_of other core
  book-other other apart = elim (place_told core other) [
    | inl at ↦
        book-there now at.0 other after.keys (still at.0 at.1) (same at.0 at.1 ∙ at.2)
        ∙ booked-other (seating who seat core) place at.0 book key at.1 (λ e. apart (sym at.2 ∙ ap (λ n. key_at n core) e))
        ∙ sym (book-there core at.0 other tied.keys at.1 at.2)
    | inr none ↦ elim (place_told now other) [
      | inl at ↦ absurd (
          let before = had_key core who place book seat session key at.0 at.1 in
          not_there core other at.0 tied.keys none before (sym (same at.0 before) ∙ at.2))
      | inr none_still ↦ book-nowhere now other none_still ∙ sym (book-nowhere core other none)
    ]
  ]

  -- its granted tickets
  granted-made : (effect : Effect Ticket) → Becomes effect (Contains (book_at place core).granted) (Contains book.granted)
      → Becomes (mapped (of_lock here) effect) (Contains (system_of core).granted) (Contains (system_of now).granted)
  granted-made effect members held =
      let before = by_lists core tied in
      let by = by_lists now after in
      elim (key_told held.key here) [
        | inl k ↦ (
            let t = in_book held in
            subst (λ (h : Holding). Contains (system_of now).granted h ↔ After (mapped (of_lock here) effect) h (Contains (system_of core).granted h))
            (λ i. record { session = held.session; number = held.number; key = sym k i; mode = held.mode })
            (through (subst (λ (b : BookView). Contains (system_of now).granted (of_lock here t) ↔ Contains b.granted t) book-now (by (of_lock here t)))
            (through (members t) (back (after-mapped (of_lock here) t (Contains (system_of core).granted (of_lock here t)) (Contains (book_at place core).granted t) effect
            (each-all (λ y. of_lock here t ≡ of_lock here y → t ≡ y) (λ y e. ap in_book e) effect)
            (subst (λ (b : BookView). Contains (system_of core).granted (of_lock here t) ↔ Contains b.granted t) book-then (before (of_lock here t))))))))
        | inr other ↦
            through (by held)
            (through (subst (λ (b : BookView). Contains b.granted (in_book held) ↔ Contains (system_of core).granted held) (sym (book-other held.key other)) (back (before held)))
            (back (after-other held (Contains (system_of core).granted held) (mapped (of_lock here) effect)
            (each-mapped (λ y. held ≢ y) (of_lock here) (λ t e. other (ap (λ (h : Holding). h.key) e)) effect))))
      ]

  -- what is defined under other keys
  defined-elsewhere : SameElsewhere here (system_of core).definitions (system_of now).definitions
  defined-elsewhere other apart = ap defined_in (book-other other apart)

  -- its granted waits that aren't ended
  unended-made : (effect : Effect GrantedWait) → Each (λ (wait : GrantedWait). wait.session ≡ who) effect → Becomes effect (Unended who (seat_at who core)) (Unended who seat)
      → Becomes effect (Contains (system_of core).unended) (Contains (system_of now).unended)
  unended-made effect own becomes wait = elim (nat_told wait.session who) [
    | inl mine ↦
        through (seated-unended core who seat session wait mine)
        (through (becomes wait) (back (after-like wait (Contains (system_of core).unended wait) (Unended who (seat_at who core) wait) effect (own-unended core who wait session mine))))
    | inr other ↦ through (others-unended core who seat session wait other) (back (after-other wait (Contains (system_of core).unended wait) effect
        (each-also (λ (w : GrantedWait). w.session ≡ who) (λ y. wait ≢ y) (λ y mine e. other (ap (λ (w : GrantedWait). w.session) e ∙ mine)) effect own)))
  ]

  -- those that wait
  module _ (effect : Effect Held) (at : Each (λ (ticket : Held). ticket.place ≡ place) effect)
      (keeps : (ticket : Held) → Awaits (seat_at who core) ticket → Each (λ other. ticket ≢ other) effect → seat.wait ≡ (seat_at who core).wait) where
    -- a ticket waits as before, but for the one that comes, goes or is settled
    waiter-kept : (p : ℕ) (ticket : Ticket) → has_key p core ≡ true → Contains (book_at p core).waiting ticket
        → (ticket.session ≡ who → Each (λ other. held_at p ticket ≢ other) effect) → waiter_in now ticket ≡ waiter_in core ticket
    waiter-kept p ticket has among apart = ap (system_waiter ticket)
        (at_session core who place book seat session key (λ w (s : SeatView). w ≡ ticket.session → s.wait ≡ (seat_at w core).wait)
        (λ own. keeps (held_at p ticket) (waiting-own core who p tied session has ticket (sym own) among) (apart (sym own))) (λ _ _ _ _. refl)
        ticket.session (tied.waiting_by p has ticket among).0 refl)

    waiting-elsewhere : SameElsewhere here (system_of core).waiting (system_of now).waiting
    waiting-elsewhere other apart =
        ap (λ (b : BookView). map (waiter_in now) b.waiting) (book-other other apart)
        ∙ map-agree (waiter_in now) (waiter_in core) (book_of other core).waiting (λ ticket among.
        let there = ticket-there core other ticket tied.keys among in
        waiter-kept there.0 ticket there.1 there.3 (λ own.
        each-also (λ (h : Held). h.place ≡ place) (λ h. held_at there.0 ticket ≢ h)
        (λ h is e. apart (sym there.2 ∙ ap (λ p. key_at p core) (ap (λ (x : Held). x.place) e ∙ is))) effect at))

    waiting-made : AreApart session_of (book_at place core).waiting → Joins (λ (one other : Ticket). one.session ≢ other.session) (mapped (in_book_of who) effect) (book_at place core).waiting
        → InOrder (mapped (in_book_of who) effect) (book_at place core).waiting book.waiting
        → InOrder (turned (waits_as who (seat_at who core).wait) (waits_as who seat.wait) effect) ((system_of core).waiting here) ((system_of now).waiting here)
    waiting-made apart joins order =
        let waiters = order-mapped session_of (waiter_in core) (waiter_in now) (mapped (in_book_of who) effect) (book_at place core).waiting book.waiting apart joins order
        (λ ticket among others. waiter-kept place ticket key among (λ own.
        each-unmapped (λ y. ticket.session ≢ y.session) (in_book_of who) (λ h. held_at place ticket ≢ h) (λ h n. absurd (n own)) effect others)) in
        subst (λ (s : SeatView). InOrder (turned (waits_as who (seat_at who core).wait) (waits_as who s.wait) effect) ((system_of core).waiting here) ((system_of now).waiting here))
        (seated-same core who seat session)
        (subst (λ e. InOrder e ((system_of core).waiting here) ((system_of now).waiting here)) (turned-mapped (in_book_of who) (waiter_in core) (waiter_in now) effect)
        (subst (λ (b : BookView). InOrder (turned (waiter_in core) (waiter_in now) (mapped (in_book_of who) effect)) (map (waiter_in core) b.waiting) ((system_of now).waiting here)) (sym book-then)
        (subst (λ (b : BookView). InOrder (turned (waiter_in core) (waiter_in now) (mapped (in_book_of who) effect)) (map (waiter_in core) (book_at place core).waiting) (map (waiter_in now) b.waiting)) (sym book-now) waiters)))

-- ---- all of it

-- what a change makes of the system, by its effects
pub record SystemMade (core : Core) (who place : ℕ) (change : Change) (seat : SeatView) (new : Core) : Type 0 where
  pub granted : Becomes (mapped (of_lock (key_at place core)) (mapped (in_book_of who) (has_effect place change seat))) (Contains (system_of core).granted) (Contains (system_of new).granted)
  pub waiting : InOrder (turned (waits_as who seat.wait) (waits_as who (seat_after place change seat).wait) (wait_effect place change seat))
      ((system_of core).waiting (key_at place core)) ((system_of new).waiting (key_at place core))
  pub elsewhere : SameElsewhere (key_at place core) (system_of core).waiting (system_of new).waiting
  pub unended : Becomes (unended_effect who place change seat) (Contains (system_of core).unended) (Contains (system_of new).unended)
  pub before : (system_of core).definitions (key_at place core) ≡ defined_in (book_at place core)
  pub defined : (system_of new).definitions (key_at place core) ≡ defined_in (book_after who seat change (book_at place core))
  pub defined_elsewhere : SameElsewhere (key_at place core) (system_of core).definitions (system_of new).definitions

-- a change that may be made does that to the system
pub system-made : (core : Core) (who place : ℕ) (change : Change) → IsTied core → May who place change core
    → SystemMade core who place change (seat_at who core) (after_change who place change core)
system-made core who place change tied may =
    let old = seat_at who core in
    let seat = seat_after place change old in
    let book = book_after who old change (book_at place core) in
    let is = made core who place change tied may in
    let after : IsTied (written core who place book seat may.session may.key) = subst IsTied is.books.written (tied-changing core who place change tied may) in
    subst (SystemMade core who place change old) (sym is.books.written) (record {
      granted = granted-made core who place seat book tied may.session may.key is.books.key after (mapped (in_book_of who) (has_effect place change old)) is.granted.members;
      waiting = waiting-made core who place seat book tied may.session may.key is.books.key after (wait_effect place change old) is.seats.waits.at is.seats.keeps
          (tied.waiting_once place may.key) is.waiting.joins is.waiting.order;
      elsewhere = waiting-elsewhere core who place seat book tied may.session may.key is.books.key after (wait_effect place change old) is.seats.waits.at is.seats.keeps;
      unended = unended-made core who place seat book tied may.session may.key is.books.key after (unended_effect who place change old) is.seats.own is.seats.unended;
      before = ap defined_in (book-then core who place seat book tied may.session may.key is.books.key after);
      defined = ap defined_in (book-now core who place seat book tied may.session may.key is.books.key after);
      defined_elsewhere = defined-elsewhere core who place seat book tied may.session may.key is.books.key after;
    })

-- where it is the same under one key, and under all others, it is under each
pub same-at : {T : Type 0} (old new : KeyName → T) (key : KeyName) → new key ≡ old key → SameElsewhere key old new → SameAt old new
same-at old new key same elsewhere other = elim (key_told other key) [
  | inl e ↦ subst (λ k. new k ≡ old k) (sym e) same
  | inr apart ↦ elsewhere other apart
]

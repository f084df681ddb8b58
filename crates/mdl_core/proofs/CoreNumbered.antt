-- The system that a sound lock space of one thread is, is well-numbered.
use Rattle.std.proofs.Common.{◌≡◌, ◌≢◌, ◌⊎◌, ℕ, ◌<◌, ◌≤◌, Bool, true, false, inl, inr, List, [], length, map, get_or, Option, Some, None, refl, sym, ap, subst, ◌∙◌, arith}
use Rattle.std.specs.Prelude.{Contains, AllPairs, MatchOption}
use Rattle.std.proofs.lemmas.List.{get_or-map, length-map}
use Rattle.mdl_key.specs.Keys.{KeyName}
use Rattle.mdl_book.specs.declared.book_view.BookView.{BookView}
use Rattle.mdl_book.specs.declared.ticket.Ticket.{Ticket}
use Rattle.mdl_calls.specs.declared.answers.Held.{Held}
use Rattle.mdl_calls.specs.declared.answers.Settled.TheVariants as settled_as
use Rattle.mdl_core.specs.declared.pending.Pending.{Pending}
use Rattle.mdl_core.specs.ChangeEvents.{holding_of}
use Rattle.mdl_core.specs.Cores.{Core, book_at, seat_at, key_at, has_session}
use Rattle.mdl_core.specs.CoreSystems.{waiter_in, system_of}
use Rattle.mdl_core.specs.Seats.{SeatView, ticket_of_wait}
use Rattle.mdl_core.specs.SessionLaws.{HasWon, WaitsAt, HasWhatTheSystemSays, HasNothingInSystem}
use Rattle.mdl_core.specs.Ties.{HasGrantedTicket, HasRisingNumbers, IsSoundCore}
use Rattle.mdl_core.proofs.CoreGranted.{granted-place, granted-from_place}
use Rattle.mdl_core.proofs.CoreReads.{ticket-key}
use Rattle.mdl_core.proofs.CoreUnended.{unended-members}
use Rattle.mdl_core.proofs.CoreWaiting.{place_told, book-there, book-nowhere}
use Rattle.mdl_core.proofs.DeadlockWaits.{waiter-ticket}
use Rattle.mdl_core.proofs.PairLemmas.{same-number, pairs-from_rising}
use Rattle.mdl_core.proofs.SessionHas.{sessions-have}
use Rattle.mdl_system.specs.Words.{in_book, IsWellNumbered, Holding, Waiter, GrantedWait}

-- ---- the numbers of one session

-- the ticket of a session's wait, which is granted
abbrev Won : SeatView → Held → Type 0
Won seat ticket = (wait : Pending) × (seat.wait ≡ Some wait) × (wait.settled ≡ Some settled_as.Granted) × (ticket ≡ ticket_of_wait wait)

has-cases : (seat : SeatView) (ticket : Held) → HasGrantedTicket seat ticket → Contains seat.held ticket ⊎ Won seat ticket
has-cases seat ticket (inl held) = inl held
has-cases seat ticket (inr its) = inr (go seat.wait refl its)
  where
    go : (o : Option Pending) → seat.wait ≡ o → MatchOption o ⊥ (λ (wait : Pending). (wait.settled ≡ Some settled_as.Granted) × (ticket ≡ ticket_of_wait wait)) → Won seat ticket
    go None e none = absurd none
    go (Some wait) e its = (wait, e, its.0, its.1)

-- a session has one wait
one_of : (seat : SeatView) (wait other : Pending) → seat.wait ≡ Some wait → seat.wait ≡ Some other → wait ≡ other
one_of seat wait other e f = let same : Some wait ≡ Some other = sym e ∙ f in cc

-- each held ticket has a smaller number than that of the wait
held-below : (seat : SeatView) (wait : Pending) → HasRisingNumbers seat → seat.wait ≡ Some wait → (ticket : Held) → Contains seat.held ticket → ticket.id < wait.id
held-below seat wait numbered is =
    (subst (λ o. MatchOption o (Unit {0}) (λ (w : Pending).
    (w.id ≡ seat.last_ticket) × (w.number ≤ seat.last_wait) × ((ticket : Held) → Contains seat.held ticket → ticket.id < w.id))) is numbered.wait).2

-- two tickets of one number are one
has-one : (seat : SeatView) (t u : Held) → HasRisingNumbers seat → HasGrantedTicket seat t → HasGrantedTicket seat u → t.id ≡ u.id → t ≡ u
has-one seat t u numbered one other e = go (has-cases seat t one) (has-cases seat u other)
  where
    apart : (held won : Held) → Contains seat.held held → Won seat won → held.id ≢ won.id
    apart held won among its same =
        let lt = held-below seat its.0 numbered its.1 held among in
        let own : won.id ≡ its.0.id = ap (λ (x : Held). x.id) its.3 in
        omega arith

    go : Contains seat.held t ⊎ Won seat t → Contains seat.held u ⊎ Won seat u → t ≡ u
    go (inl p) (inl q) = same-number seat.held (pairs-from_rising seat.held numbered.rising) t u p q e
    go (inl p) (inr q) = absurd (apart t u p q e)
    go (inr p) (inl q) = absurd (apart u t q p (sym e))
    go (inr p) (inr q) = p.3 ∙ ap ticket_of_wait (one_of seat p.0 q.0 p.1 q.1) ∙ sym q.3

-- ---- waiters of different sessions

waiters-apart : (core : Core) (tickets : List Ticket) → AllPairs (λ (one other : Ticket). one.session ≢ other.session) tickets
    → AllPairs (λ (one other : Waiter). one.ticket.session ≢ other.ticket.session) (map (waiter_in core) tickets)
waiters-apart core tickets apart i j d lt inside same =
    let short : j < length tickets = omega (arith, length-map tickets (waiter_in core)) in
    apart i j d.ticket lt short (sym (read i (omega arith)) ∙ same ∙ read j short)
  where
    read : (k : ℕ) → k < length tickets → (get_or (map (waiter_in core) tickets) k d).ticket.session ≡ (get_or tickets k d.ticket).session
    read k short =
        ap (λ (w : Waiter). w.ticket.session) (get_or-map (waiter_in core) tickets k d.ticket d short)
        ∙ ap (λ (t : Ticket). t.session) (waiter-ticket core (get_or tickets k d.ticket))

-- ---- the system

module _ (core : Core) (sound : IsSoundCore core) where
  -- whoever has something is a session
  what : (who : ℕ) → (HasNothingInSystem (system_of core) who → ⊥) → HasWhatTheSystemSays core who
  what who some = go (has_session who core) refl
    where
      go : (b : Bool) → has_session who core ≡ b → HasWhatTheSystemSays core who
      go true e = (sessions-have core who sound).0 e
      go false e = absurd (some ((sessions-have core who sound).1 e))

  waits : (who : ℕ) (key : KeyName) (waiter : Waiter) → Contains ((system_of core).waiting key) waiter → waiter.ticket.session ≡ who → WaitsAt core who key waiter
  waits who key waiter among own = ((what who (λ none. none.1.0 key waiter among own)).waits key waiter).1 (among, own)

  won : (who : ℕ) (wait : GrantedWait) → Contains (system_of core).unended wait → wait.session ≡ who → HasWon core who wait.wait wait.ticket
  won who wait among own =
      ((what who (λ none. none.1.1 wait among own)).won wait.wait wait.ticket).1
      (subst (λ n. Contains (system_of core).unended (record { session = n; wait = wait.wait; ticket = wait.ticket })) own among)

  -- a session has each granted ticket that is its own
  has : (held : Holding) → Contains (system_of core).granted held
      → (ticket : Held) × HasGrantedTicket (seat_at held.session core) ticket × (has_session held.session core ≡ true) × (holding_of held.session ticket core ≡ held)
  has held among =
      let at = granted-place core held among in
      let ticket : Held = record { id = held.number; place = at.0; mode = held.mode } in
      let own = (sound.tied.granted_by at.0 at.1 (in_book held) at.3).0 in
      (ticket, (sound.tied.granted held.session ticket own at.1).0 at.3, own, λ i. record { session = held.session; number = held.number; key = at.2 i; mode = held.mode })

  granted-once : (one other : Holding) → Contains (system_of core).granted one → Contains (system_of core).granted other
      → one.session ≡ other.session → one.number ≡ other.number → one ≡ other
  granted-once one other p q s n =
      let t = has one p in
      let u = has other q in
      let mine : HasGrantedTicket (seat_at one.session core) u.0 = subst (λ w. HasGrantedTicket (seat_at w core) u.0) (sym s) u.1 in
      let number : t.0.id ≡ u.0.id = ap (λ (h : Holding). h.number) t.3 ∙ n ∙ sym (ap (λ (h : Holding). h.number) u.3) in
      let same : t.0 ≡ u.0 = has-one (seat_at one.session core) t.0 u.0 (sound.tied.numbered one.session t.2) t.1 mine number in
      sym t.3 ∙ (λ i. holding_of (s i) (same i) core) ∙ u.3

  new_number : (key : KeyName) (waiter : Waiter) → Contains ((system_of core).waiting key) waiter
      → (held : Holding) → Contains (system_of core).granted held → held.session ≡ waiter.ticket.session → held.number ≢ waiter.ticket.number
  new_number key waiter among held stands s n =
      let t = has held stands in
      let w = waits held.session key waiter among (sym s) in
      let numbered = sound.tied.numbered held.session t.2 in
      let id : t.0.id ≡ w.0.id = ap (λ (h : Holding). h.number) t.3 ∙ n ∙ ap (λ (x : Waiter). x.ticket.number) w.4 in
      elim (has-cases (seat_at held.session core) t.0 t.1) [
        | inl own ↦ (let lt = held-below (seat_at held.session core) w.0 numbered w.1 t.0 own in omega arith)
        | inr its ↦ w.2 (ap (λ (p : Pending). p.settled) (one_of (seat_at held.session core) w.0 its.0 w.1 its.1) ∙ its.2)
      ]

  once : (key : KeyName) → AllPairs (λ (one other : Waiter). one.ticket.session ≢ other.ticket.session) ((system_of core).waiting key)
  once key = elim (place_told core key) [
    | inl at ↦ subst (λ (b : BookView). AllPairs (λ (one other : Waiter). one.ticket.session ≢ other.ticket.session) (map (waiter_in core) b.waiting))
        (sym (book-there core at.0 key sound.tied.keys at.1 at.2)) (waiters-apart core (book_at at.0 core).waiting (sound.tied.waiting_once at.0 at.1))
    | inr nowhere ↦ subst (λ (b : BookView). AllPairs (λ (one other : Waiter). one.ticket.session ≢ other.ticket.session) (map (waiter_in core) b.waiting))
        (sym (book-nowhere core key nowhere)) (waiters-apart core [] (λ i j d lt short. absurd (omega arith)))
  ]

  one_key : (key other : KeyName) (waiter another : Waiter) → Contains ((system_of core).waiting key) waiter → Contains ((system_of core).waiting other) another
      → waiter.ticket.session ≡ another.ticket.session → key ≡ other
  one_key key other waiter another p q s =
      let w = waits another.ticket.session key waiter p s in
      let v = waits another.ticket.session other another q refl in
      sym w.3 ∙ ap (λ (x : Pending). key_at x.place core) (one_of (seat_at another.ticket.session core) w.0 v.0 w.1 v.1) ∙ v.3

  ended : (key : KeyName) (waiter : Waiter) (wait : GrantedWait) → Contains ((system_of core).waiting key) waiter → Contains (system_of core).unended wait
      → waiter.ticket.session ≢ wait.session
  ended key waiter wait p q s =
      let w = waits wait.session key waiter p s in
      let v = won wait.session wait q refl in
      w.2 (ap (λ (x : Pending). x.settled) (one_of (seat_at wait.session core) w.0 v.0 w.1 v.1) ∙ v.2)

  one_wait : (one other : GrantedWait) → Contains (system_of core).unended one → Contains (system_of core).unended other → one.session ≡ other.session → one ≡ other
  one_wait one other p q s =
      let w = won other.session one p s in
      let v = won other.session other q refl in
      let same = one_of (seat_at other.session core) w.0 v.0 w.1 v.1 in
      let number : one.wait ≡ other.wait = sym w.3 ∙ ap (λ (x : Pending). x.number) same ∙ v.3 in
      let ticket : one.ticket ≡ other.ticket = sym w.4 ∙ ap (λ (x : Pending). x.id) same ∙ v.4 in
      λ i. record { session = s i; wait = number i; ticket = ticket i }

  stands : (wait : GrantedWait) → Contains (system_of core).unended wait
      → (held : Holding) × Contains (system_of core).granted held × (held.session ≡ wait.session) × (held.number ≡ wait.ticket)
  stands wait among =
      let w = won wait.session wait among refl in
      let ticket = ticket_of_wait w.0 in
      let mine : HasGrantedTicket (seat_at wait.session core) ticket =
      inr (subst (λ o. MatchOption o ⊥ (λ (p : Pending). (p.settled ≡ Some settled_as.Granted) × (ticket ≡ ticket_of_wait p))) (sym w.1) (w.2, refl)) in
      let own = ((unended-members core wait).0 among).0 in
      let there = ticket-key core wait.session ticket sound.tied own (inl mine) in
      let held = holding_of wait.session ticket core in
      (held, granted-from_place core w.0.place held there refl ((sound.tied.granted wait.session ticket own there).1 mine), refl, w.4)

  pub sound-well_numbered : IsWellNumbered (system_of core)
  sound-well_numbered = record { granted = granted-once; waiting = new_number; once = once; one_key = one_key; ended = ended; one_wait = one_wait; stands = stands }

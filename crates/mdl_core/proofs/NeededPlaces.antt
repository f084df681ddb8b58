-- What a session has at a place: tickets that it holds, or a wait.
use Rattle.std.proofs.Common.{◌≡◌, ◌≢◌, ◌⊎◌, ℕ, ◌==◌, Bool, true, false, ◌||◌, Option, Some, None, option_map, MatchOption, inl, inr, refl, sym, ap, subst, ◌∙◌, eq-eqb, eqb-true}
use Rattle.std.specs.List.{list_any}
use Rattle.std.proofs.lemmas.Bool.{or_cases}
use Rattle.mdl_calls.specs.declared.answers.Held.{Held}
use Rattle.mdl_calls.specs.declared.answers.Settled.{Settled}
use Rattle.mdl_calls.specs.declared.answers.Settled.TheVariants as settled_as
use Rattle.mdl_calls.specs.SessionLocks.{Wait}
use Rattle.mdl_core.specs.declared.pending.Pending.{Pending}
use Rattle.mdl_core.specs.CoreCalls.{is_needed, is_wait_at}
use Rattle.mdl_core.specs.Cores.{Core, seat_at}
use Rattle.mdl_core.specs.Seats.{SeatView, ticket_of_wait}
use Rattle.mdl_core.specs.SessionLaws.{Needs}
use Rattle.mdl_core.specs.Ties.{Awaits, HasGrantedTicket}
use Rattle.mdl_core.proofs.SparedSeats.{as_wait}
use Rattle.mdl_system.proofs.MemberLemmas.{any-found, any-from}

-- one of two
or-first : (p q : Bool) → p ≡ true → (p || q) ≡ true
or-first true q e = refl
or-first false q e = cc

or-second : (p q : Bool) → q ≡ true → (p || q) ≡ true
or-second true q e = refl
or-second false q e = e

-- the ticket of a wait is had or waited for
pub waits-ticket : (seat : SeatView) (wait : Pending) → seat.wait ≡ Some wait → HasGrantedTicket seat (ticket_of_wait wait) ⊎ Awaits seat (ticket_of_wait wait)
waits-ticket seat wait its = go wait.settled refl
  where
    at : (P : Pending → Type 0) → P wait → MatchOption seat.wait ⊥ P
    at P h = subst (λ (o : Option Pending). MatchOption o ⊥ P) (sym its) h

    other : (s : Option Settled) → wait.settled ≡ s → s ≢ Some settled_as.Granted → Awaits seat (ticket_of_wait wait)
    other s e apart = at _ ((λ f. apart (sym e ∙ f)), refl)

    go : (s : Option Settled) → wait.settled ≡ s → HasGrantedTicket seat (ticket_of_wait wait) ⊎ Awaits seat (ticket_of_wait wait)
    go (Some settled_as.Granted) e = inl (inr (at _ (e, refl)))
    go s e = inr (other s e (λ f. cc))

-- ---- a wait at a place

module _ (place : ℕ) where
  -- as its session has it
  wait-told : (o : Option Pending) → is_wait_at place o ≡ true → (wait : Wait) × (option_map as_wait o ≡ Some wait) × (wait.place ≡ place)
  wait-told None e = cc
  wait-told (Some wait) e = (as_wait wait, refl, eqb-true wait.place place e)

  wait-from : (o : Option Pending) (wait : Wait) → option_map as_wait o ≡ Some wait → wait.place ≡ place → is_wait_at place o ≡ true
  wait-from None wait is at = cc
  wait-from (Some pending) wait is at =
      let same : as_wait pending ≡ wait = cc in
      eq-eqb pending.place place (ap (λ (w : Wait). w.place) same ∙ at)

  -- by its ticket
  wait-by : (P : Pending → Type 0) (ticket : Held) (o : Option Pending) → MatchOption o ⊥ (λ (wait : Pending). P wait × (ticket ≡ ticket_of_wait wait))
      → ticket.place ≡ place → is_wait_at place o ≡ true
  wait-by P ticket None none here = absurd none
  wait-by P ticket (Some wait) (so, is) here = eq-eqb wait.place place (sym (ap (λ (t : Held). t.place) is) ∙ here)

  pending-told : (seat : SeatView) (o : Option Pending) → seat.wait ≡ o → is_wait_at place o ≡ true
      → (ticket : Held) × (HasGrantedTicket seat ticket ⊎ Awaits seat ticket) × (ticket.place ≡ place)
  pending-told seat None its e = cc
  pending-told seat (Some wait) its e = (ticket_of_wait wait, waits-ticket seat wait its, eqb-true wait.place place e)

-- ---- a place that a session needs

module _ (core : Core) (who place : ℕ) where
  abbrev is_there : Held → Bool
  is_there ticket = ticket.place == place

  -- it has a ticket or a wait there
  pub needs-told : is_needed who place core ≡ true → Needs core who place
  needs-told needed = elim (or_cases (list_any is_there (seat_at who core).held) (is_wait_at place (seat_at who core).wait) needed) [
    | inl holds ↦ (let h = any-found is_there (seat_at who core).held holds in inl (h.0, h.1, eqb-true _ _ h.2))
    | inr waits ↦ inr (wait-told place (seat_at who core).wait waits)
  ]

  pub needs-from : Needs core who place → is_needed who place core ≡ true
  needs-from (inl (ticket, among, at)) = or-first _ _ (any-from is_there (seat_at who core).held ticket among (eq-eqb _ _ at))
  needs-from (inr (wait, is, at)) = or-second _ _ (wait-from place (seat_at who core).wait wait is at)

  -- a ticket that it has, or waits for
  pub needed-ticket : is_needed who place core ≡ true
      → (ticket : Held) × (HasGrantedTicket (seat_at who core) ticket ⊎ Awaits (seat_at who core) ticket) × (ticket.place ≡ place)
  needed-ticket needed = elim (or_cases (list_any is_there (seat_at who core).held) (is_wait_at place (seat_at who core).wait) needed) [
    | inl holds ↦ (let h = any-found is_there (seat_at who core).held holds in (h.0, inl (inl h.1), eqb-true _ _ h.2))
    | inr waits ↦ pending-told place (seat_at who core) (seat_at who core).wait refl waits
  ]

  pub ticket-needs : (ticket : Held) → HasGrantedTicket (seat_at who core) ticket ⊎ Awaits (seat_at who core) ticket → ticket.place ≡ place
      → is_needed who place core ≡ true
  ticket-needs ticket (inl (inl holds)) here = or-first _ _ (any-from is_there (seat_at who core).held ticket holds (eq-eqb _ _ here))
  ticket-needs ticket (inl (inr won)) here =
      or-second _ _ (wait-by place (λ wait. wait.settled ≡ Some settled_as.Granted) ticket (seat_at who core).wait won here)
  ticket-needs ticket (inr waits) here =
      or-second _ _ (wait-by place (λ wait. wait.settled ≢ Some settled_as.Granted) ticket (seat_at who core).wait waits here)

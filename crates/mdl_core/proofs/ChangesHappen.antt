-- Each change in the space of one thread is an event of the system of locks.
use Rattle.std.proofs.Common.{◌≡◌, ◌≢◌, ◌⊎◌, ◌↔◌, ℕ, ◌+◌, true, inl, inr, List, Option, Some, None, refl, sym, ap, subst, ◌∙◌}
use Rattle.std.specs.Prelude.{Contains}
use Rattle.std.specs.Option.{option_map}
use Rattle.mdl_key.specs.declared.mode.Mode.{Mode}
use Rattle.mdl_key.specs.Words.{IsAtLeast, KeyName, is_mode_of}
use Rattle.mdl_book.specs.declared.ticket.Ticket.{Ticket}
use Rattle.mdl_calls.specs.declared.answers.Held.{Held}
use Rattle.mdl_calls.specs.declared.answers.Settled.{Settled}
use Rattle.mdl_calls.specs.declared.answers.Settled.TheVariants as settled_as
use Rattle.mdl_defs.specs.declared.change.Change.{Change as Redefinition}
use Rattle.mdl_defs.specs.declared.definition.Definition.{Definition}
use Rattle.mdl_defs.proofs.VersionedDefinitionLemmas.{applied-changed}
use Rattle.mdl_core.specs.declared.pending.Pending.{Pending}
use Rattle.mdl_core.specs.ChangeEvents.{holding_of, ticket_of_wait, IsChangeEvent}
use Rattle.mdl_core.specs.Changes.{Change, Gain, Lose, Queue, Admit, Settle, Leave, Take_up, Alter, Fold, Redefine, book_after, after_change, Allows, May}
use Rattle.mdl_core.specs.CoreSystems.{wait_state_of, system_waiter, waiter_in, unended_at, unended_of, defined_in, applies, system_of}
use Rattle.mdl_core.specs.Cores.{Core, book_at, seat_at, key_at, standing_at, has_session}
use Rattle.mdl_core.specs.Seats.{SeatView, held_in_mode}
use Rattle.mdl_core.specs.Ties.{in_book_of, IsTied}
use Rattle.mdl_core.proofs.ChangeSeats.{wait_turned, merged_numbers, merged_mode}
use Rattle.mdl_core.proofs.ChangeSystems.{waits_as, SystemMade, system-made, same-at}
use Rattle.mdl_core.proofs.CoreGranted.{held-in, new_number}
use Rattle.mdl_core.proofs.CoreReads.{ticket-key}
use Rattle.mdl_core.proofs.CoreUnended.{own-unended}
use Rattle.mdl_core.proofs.CoreWaiting.{no_wait}
use Rattle.mdl_core.proofs.Effects.{InOrder, turned, through, either}
use Rattle.mdl_system.specs.Words.{SameMembers, Gains, Loses, LeavesOrder, SameElsewhere, SameAt, SameSystem, ElseSame, Event, GrantWaiter, Happens, granted_wait, Unsettled, Versioned, Waiter, System, Holding, Replaces, IsGrantable, lock_kind}
use Rattle.mdl_core.proofs.TiedWrites.{held_at}
use Rattle.mdl_system.proofs.StrengthLemmas.{covers-at_least, downgrade-listed}

-- ---- what stays

pub same_members : {T : Type 0} (xs : List T) → SameMembers xs xs
same_members xs x = (λ p. p, λ p. p)

-- a system is the same as itself
pub same_system : {D : Type 0} (a : System D) → SameSystem a a
same_system a = record {
  granted = same_members a.granted;
  waits = record { waiting = λ _. refl; unended = same_members a.unended };
  definitions = λ _. refl;
}

-- a lost wait isn't open
not_unsettled : (settled : Option Settled) → settled ≢ None → settled ≢ Some settled_as.Granted → wait_state_of settled ≢ Unsettled
not_unsettled None none granted = absurd (none refl)
not_unsettled (Some settled_as.Granted) none granted = absurd (granted refl)
not_unsettled (Some settled_as.Victim) none granted = λ e. cc
not_unsettled (Some settled_as.Timeout) none granted = λ e. cc
not_unsettled (Some settled_as.Killed) none granted = λ e. cc

-- ---- the events

module _ (core : Core) (who place : ℕ) (tied : IsTied core) (session : has_session who core ≡ true) where
  abbrev seat : SeatView
  seat = seat_at who core

  abbrev key : KeyName
  key = key_at place core

  abbrev a : System Definition
  a = system_of core

  abbrev after : Change → System Definition
  after change = system_of (after_change who place change core)

  abbrev Leads : Change → Event Redefinition → Type 0
  Leads change event = Happens applies event a (after change)

  abbrev Made : Change → Type 0
  Made change = SystemMade core who place change seat (after_change who place change core)

  -- where the book's standing is as it was, all is defined as before
  defined : (change : Change) → Made change → defined_in (book_after who seat change (book_at place core)) ≡ defined_in (book_at place core)
      → SameAt a.definitions (after change).definitions
  defined change made same = same-at a.definitions (after change).definitions key (made.defined ∙ same ∙ sym made.before) made.defined_elsewhere

  rest : (change : Change) → Made change → defined_in (book_after who seat change (book_at place core)) ≡ defined_in (book_at place core)
      → (after change).waiting key ≡ a.waiting key → SameMembers a.unended (after change).unended → ElseSame a (after change)
  rest change made stays same unended = record {
    waits = record { waiting = same-at a.waiting (after change).waiting key same made.elsewhere; unended = unended };
    definitions = defined change made stays;
  }

  -- a ticket is in another mode among those that are granted
  altered : (ticket : Held) (mode : Mode) → ticket.place ≡ place → Made (Alter ticket mode)
      → Replaces (holding_of who ticket core) (holding_of who (held_in_mode mode ticket) core) a.granted (after (Alter ticket mode)).granted
  altered ticket mode at made =
      subst (λ p. Replaces (record { session = who; number = ticket.id; key = key_at p core; mode = ticket.mode })
      (record { session = who; number = ticket.id; key = key_at p core; mode = mode }) a.granted (after (Alter ticket mode)).granted) (sym at) made.granted

  -- of two tickets the one is there in the mode of the other, which is gone
  folded : (old new : Held) → old.place ≡ place → new.place ≡ place → Made (Fold old new) → (x : Holding)
      → Contains (after (Fold old new)).granted x
      ↔ ((Contains a.granted x × (x ≢ holding_of who old core) × (x ≢ holding_of who new core)) ⊎ (x ≡ holding_of who (held_in_mode new.mode old) core))
  folded old new at there made x =
      let here : ℕ → Held → Holding = λ p ticket. record { session = who; number = ticket.id; key = key_at p core; mode = ticket.mode } in
      subst (λ p. Contains (after (Fold old new)).granted x
      ↔ ((Contains a.granted x × (x ≢ here p old) × (x ≢ holding_of who new core)) ⊎ (x ≡ here p (held_in_mode new.mode old)))) (sym at)
      (subst (λ p. Contains (after (Fold old new)).granted x
      ↔ ((Contains a.granted x × (x ≢ here place old) × (x ≢ here p new)) ⊎ (x ≡ here place (held_in_mode new.mode old)))) (sym there)
      (through (made.granted x) (either (λ h. (h.0.0, h.1, h.0.1)) (λ e. e), either (λ h. ((h.0, h.2), h.1)) (λ e. e))))

  -- a held ticket is in a mode of its lock's kind
  legal : (ticket : Held) → Contains seat.held ticket → is_mode_of (lock_kind (key_at ticket.place core)) ticket.mode ≡ true
  legal ticket held =
      let there = ticket-key core who ticket tied session (inl (inl held)) in
      (tied.granted_by ticket.place there (in_book_of who ticket) ((tied.granted who ticket session there).1 (inl held))).1

  happens : (change : Change) (event : Event Redefinition) → Allows who place change seat (book_at place core) → Made change
      → IsChangeEvent who place change core event → Leads change event
  happens (Gain mode) event allows made (inl grant) = subst (Leads (Gain mode)) (sym grant.0) (record {
    free = no_wait core who tied session allows.0;
    new_number = new_number core who tied session;
    grantable = grant.1;
    granted = made.granted;
    rest = rest (Gain mode) made refl made.waiting made.unended;
  })
  happens (Gain mode) event allows made (inr clone) = subst (Leads (Gain mode)) (sym clone.4) (record {
    free = no_wait core who tied session allows.0;
    new_number = new_number core who tied session;
    held = held-in core who clone.0 tied session clone.1;
    same_key = ap (λ p. key_at p core) (sym clone.2);
    at_least = subst (λ p. IsAtLeast (lock_kind (key_at p core)) (clone.0).mode mode) (sym clone.2) clone.3;
    granted = made.granted;
    rest = rest (Gain mode) made refl made.waiting made.unended;
  })
  happens (Lose ticket) event allows made is = subst (Leads (Lose ticket)) (sym is) (record {
    held = held-in core who ticket tied session allows.0;
    granted = subst (λ p. Loses (record { session = who; number = ticket.id; key = key_at p core; mode = ticket.mode }) a.granted (after (Lose ticket)).granted)
        (sym allows.1) made.granted;
    rest = rest (Lose ticket) made refl made.waiting made.unended;
  })
  happens (Queue mode) event allows made is = subst (Leads (Queue mode)) (sym is) (record {
    free = no_wait core who tied session allows.0;
    new_number = new_number core who tied session;
    unsettled = refl;
    joins = made.waiting;
    elsewhere = made.elsewhere;
    granted = made.granted;
    unended = made.unended;
    definitions = defined (Queue mode) made refl;
  })
  happens (Admit ticket) event allows made is =
      let wait = allows.2 in
      let own : Ticket = in_book_of who (held_at place ticket) in
      let waiter : Waiter = system_waiter own (Some wait.0) in
      let same : waiter_in core ticket ≡ waiter =
      (λ i. system_waiter (record { session = allows.1 i; number = ticket.number; mode = ticket.mode }) (seat_at (allows.1 i) core).wait) ∙ ap (system_waiter own) wait.1 in
      subst (Leads (Admit ticket)) (sym (is.0 ∙ ap (GrantWaiter key) same)) (record {
        unsettled = ap wait_state_of wait.2;
        grantable = is.1;
        leaves = subst (λ o. LeavesOrder (system_waiter own o) (a.waiting key) ((after (Admit ticket)).waiting key)) wait.1 made.waiting;
        elsewhere = made.elsewhere;
        granted = made.granted;
        unended = subst (λ o. Gains (granted_wait (system_waiter own o)) a.unended (after (Admit ticket)).unended) wait.1 made.unended;
        definitions = defined (Admit ticket) made refl;
      })
  happens (Settle how) event allows made is =
      let wait : Pending = is.0 in
      let open_still : wait.settled ≡ None = let w = allows.0 in let e = w.1 in let f = w.2 in let g = is.1 in let same : w.0 ≡ wait = cc in ap (λ (p : Pending). p.settled) (sym same) ∙ f in
      subst (Leads (Settle how)) (sym is.2) (record {
        unsettled = ap wait_state_of open_still;
        lost = not_unsettled (Some how) (λ e. cc) (λ e. allows.1 (cc));
        settled = subst (λ o. InOrder (turned (waits_as who o) (waits_as who (option_map (λ (w : Pending). record w { settled = Some how }) o)) (wait_turned o))
            (a.waiting key) ((after (Settle how)).waiting key)) is.1 made.waiting;
        elsewhere = made.elsewhere;
        granted = made.granted;
        unended = made.unended;
        definitions = defined (Settle how) made refl;
      })
  happens (Leave wait) event allows made is = subst (Leads (Leave wait)) (sym is.0) (record {
    settled = not_unsettled wait.settled is.1 allows.1;
    leaves = subst (λ o. LeavesOrder (system_waiter (ticket_of_wait who wait) o) (a.waiting key) ((after (Leave wait)).waiting key)) allows.0 made.waiting;
    elsewhere = made.elsewhere;
    granted = made.granted;
    unended = made.unended;
    definitions = defined (Leave wait) made refl;
  })
  happens (Take_up wait) event allows made is = subst (Leads (Take_up wait)) (sym is) (record {
    stands = (own-unended core who (record { session = who; wait = wait.number; ticket = wait.id }) session refl).1
        (ap (unended_of who) allows.0 ∙ ap (unended_at who wait) allows.1);
    unended = made.unended;
    granted = made.granted;
    waiting = same-at a.waiting (after (Take_up wait)).waiting key made.waiting made.elsewhere;
    definitions = defined (Take_up wait) made refl;
  })
  happens (Alter ticket mode) event allows made (inl upgrade) = subst (Leads (Alter ticket mode)) (sym upgrade.0) (record {
    free = no_wait core who tied session upgrade.1;
    held = held-in core who ticket tied session allows.0;
    grantable = subst (λ p. IsGrantable a who (key_at p core) mode) (sym allows.1) upgrade.3;
    granted = altered ticket mode allows.1 made;
    rest = rest (Alter ticket mode) made refl made.waiting made.unended;
  })
  happens (Alter ticket mode) event allows made (inr downgrade) = subst (Leads (Alter ticket mode)) (sym downgrade.0) (record {
    held = held-in core who ticket tied session allows.0;
    weaker = downgrade-listed ticket.mode mode downgrade.1;
    granted = altered ticket mode allows.1 made;
    rest = rest (Alter ticket mode) made refl made.waiting made.unended;
  })
  happens (Fold old new) event allows made is = subst (Leads (Fold old new)) (sym is) (record {
    free = no_wait core who tied session allows.0;
    old_held = held-in core who old tied session allows.1;
    new_held = held-in core who new tied session allows.2;
    two = λ e. merged_numbers old new allows.5 (ap (λ (h : Holding). h.number) e);
    same_key = ap (λ p. key_at p core) (allows.4 ∙ sym allows.3);
    at_least = covers-at_least (lock_kind (key_at old.place core)) new.mode old.mode
        (subst (λ p. is_mode_of (lock_kind (key_at p core)) new.mode ≡ true) (allows.4 ∙ sym allows.3) (legal new allows.2)) (legal old allows.1)
        (merged_mode old new allows.5);
    granted = folded old new allows.3 allows.4 made;
    rest = rest (Fold old new) made refl made.waiting made.unended;
  })
  happens (Redefine ticket change) event allows made is = subst (Leads (Redefine ticket change)) (sym is) (record {
    held = held-in core who ticket tied session allows.0;
    exclusive = allows.2;
    applied = under (λ k. applies k change (a.definitions k).definition ≡ Some ((after (Redefine ticket change)).definitions k).definition)
        (ap (λ (d : Versioned Definition). applies key change d.definition) made.before ∙ applied-changed key.namespace change (standing_at place core) allows.3
        ∙ ap (λ (d : Versioned Definition). Some d.definition) (sym made.defined));
    counted = under (λ k. ((after (Redefine ticket change)).definitions k).version ≡ (a.definitions k).version + 1)
        (ap (λ (d : Versioned Definition). d.version) made.defined ∙ ap (λ (d : Versioned Definition). d.version + 1) (sym made.before));
    elsewhere = under (λ k. SameElsewhere k a.definitions (after (Redefine ticket change)).definitions) made.defined_elsewhere;
    granted = made.granted;
    waits = record { waiting = same-at a.waiting (after (Redefine ticket change)).waiting key made.waiting made.elsewhere; unended = made.unended };
  })
    where
      under : (P : KeyName → Type 0) → P key → P (key_at ticket.place core)
      under P p = subst (λ n. P (key_at n core)) (sym allows.1) p

-- a change that may be made happens in the system as its event
pub change-happens : (core : Core) (who place : ℕ) (change : Change) (event : Event Redefinition)
    → IsTied core → May who place change core → IsChangeEvent who place change core event → Happens applies event (system_of core) (system_of (after_change who place change core))
change-happens core who place change event tied may is =
    happens core who place tied may.session change event may.allows (system-made core who place change tied may) is

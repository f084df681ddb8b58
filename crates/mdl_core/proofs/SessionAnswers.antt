-- What is answered by the tickets that a session holds, and by its wait.
use Rattle.std.proofs.Common.{◌≡◌, ◌≢◌, ℕ, true, inl, inr, Option, Some, None, refl, sym, ap, subst, ◌∙◌, eqb-true}
use Rattle.std.specs.Prelude.{Contains, AllPairs}
use Rattle.std.proofs.lemmas.Bool.Decides.{Decides-eqb}
use Rattle.mdl_key.specs.Keys.{KeyName}
use Rattle.mdl_key.specs.declared.mode.Mode.{Mode}
use Rattle.mdl_book.proofs.MemberLemmas.{none-found}
use Rattle.mdl_calls.specs.declared.answers.Held.{Held}
use Rattle.mdl_calls.specs.declared.answers.Settled.{Settled}
use Rattle.mdl_calls.specs.declared.answers.Settled.TheVariants as settled_as
use Rattle.mdl_calls.specs.declared.space_error.SpaceError.TheVariants.{NotHeld}
use Rattle.mdl_calls.specs.Words.{Answer, Refused, Holds, is_number}
use Rattle.mdl_core.specs.declared.pending.Pending.{Pending}
use Rattle.mdl_core.specs.ChangeEvents.{holding_of}
use Rattle.mdl_core.specs.CoreCalls.{held_ticket}
use Rattle.mdl_core.specs.Cores.{Core, seat_at, key_at, has_session}
use Rattle.mdl_core.specs.CoreSystems.{system_of, wait_state_of}
use Rattle.mdl_core.specs.Determined.{Right, places_of, OfHolding, HoldsAtPlace, ToList, IsWait, OfWait}
use Rattle.mdl_core.specs.SessionLaws.{HasWait, waiter_for, HasWhatTheSystemSays}
use Rattle.mdl_core.specs.Ties.{IsTied}
use Rattle.mdl_system.specs.Words.{WaitState, Unsettled, Victim, TimedOut, Killed, Holding, Waiter, System, Held as IsHeld, HasNoWait}
use Rattle.mdl_core.proofs.CoreGranted.{held-in}
use Rattle.mdl_core.proofs.CoreReads.{ticket-key}
use Rattle.mdl_core.proofs.CoreServing.{found-first}
use Rattle.mdl_core.proofs.PairLemmas.{below, pairs-from_rising, same-number}
use Rattle.mdl_core.proofs.PlaceAnswers.{key_of-place, place-of_key}
use Rattle.mdl_core.proofs.RightAnswers.{IsAnswer}
use Rattle.mdl_core.proofs.TicketLists.{same-rising}
use Rattle.mdl_system.proofs.MemberLemmas.{Contains-map_from}

-- ---- how a wait is settled

-- a wait that isn't granted, by how it stands
settled_by : WaitState → Option Settled
settled_by Unsettled = None
settled_by Victim = Some settled_as.Victim
settled_by TimedOut = Some settled_as.Timeout
settled_by Killed = Some settled_as.Killed

settled_by-state : (settled : Option Settled) → settled ≢ Some settled_as.Granted → settled_by (wait_state_of settled) ≡ settled
unfolding settled_by
settled_by-state None other = refl
settled_by-state (Some settled_as.Granted) other = absurd (other refl)
settled_by-state (Some settled_as.Victim) other = refl
settled_by-state (Some settled_as.Timeout) other = refl
settled_by-state (Some settled_as.Killed) other = refl

state-settled : (one other : Option Settled) → one ≢ Some settled_as.Granted → other ≢ Some settled_as.Granted → wait_state_of one ≡ wait_state_of other → one ≡ other
state-settled one other open_one open_other same = sym (settled_by-state one open_one) ∙ ap settled_by same ∙ settled_by-state other open_other

-- a ticket of a wait that isn't granted waits somewhere
abbrev StillWaits : {D : Type 0} → System D → ℕ → ℕ → ℕ → Option Settled → Type 0
StillWaits system who number id settled =
    (key : KeyName) × (mode : Mode)
    × Contains (system.waiting key) (record { ticket = record { session = who; number = id; mode = mode }; wait = number; state = wait_state_of settled })

-- as which a wait stands
module _ {D : Type 0} (system : System D) (who number id : ℕ) where
  wait-cases : (P : Type 0) (settled : Option Settled) → IsWait system who number id settled
      → (settled ≡ Some settled_as.Granted → Contains system.unended (record { session = who; wait = number; ticket = id }) → P)
      → (settled ≢ Some settled_as.Granted → StillWaits system who number id settled → P) → P
  wait-cases P None is won lost = lost (λ e. cc) is
  wait-cases P (Some settled_as.Granted) is won lost = won refl is
  wait-cases P (Some settled_as.Victim) is won lost = lost (λ e. cc) is
  wait-cases P (Some settled_as.Timeout) is won lost = lost (λ e. cc) is
  wait-cases P (Some settled_as.Killed) is won lost = lost (λ e. cc) is

  wait-made : (settled : Option Settled)
      → (settled ≡ Some settled_as.Granted → Contains system.unended (record { session = who; wait = number; ticket = id }))
      → (settled ≢ Some settled_as.Granted → StillWaits system who number id settled) → IsWait system who number id settled
  wait-made None won lost = lost (λ e. cc)
  wait-made (Some settled_as.Granted) won lost = won refl
  wait-made (Some settled_as.Victim) won lost = lost (λ e. cc)
  wait-made (Some settled_as.Timeout) won lost = lost (λ e. cc)
  wait-made (Some settled_as.Killed) won lost = lost (λ e. cc)

-- a session that has no wait has none so
pub without-wait : {D : Type 0} (system : System D) (who : ℕ) (Without : Right) (Then : ℕ → ℕ → Option Settled → Right) (x : Answer) → HasNoWait system who
    → IsAnswer Without x → IsAnswer (OfWait system who Without Then) x
without-wait system who Without Then x none its y = (there, λ is. inr (none, (its y).1 is))
  where
    there : OfWait system who Without Then y → y ≡ x
    there (inl (number, id, settled, is, rest)) =
        absurd (wait-cases system who number id ⊥ settled is (λ granted among. none.1 _ among refl) (λ other h. none.0 h.0 _ h.2 refl))
    there (inr (free, rest)) = (its y).0 rest

module _ (a : Core) (who : ℕ) (tied : IsTied a) (has : has_session who a ≡ true) (says : HasWhatTheSystemSays a who) where
  -- ---- waits

  -- a session's wait, as the system has it
  module _ (wait : Pending) (its : HasWait a who wait) where
    stands : IsWait (system_of a) who wait.number wait.id wait.settled
    stands = wait-made (system_of a) who wait.number wait.id wait.settled
        (λ granted. (says.won wait.number wait.id).0 (wait, its, granted, refl, refl))
        (λ other. (key_at wait.place a, wait.mode, ((says.waits (key_at wait.place a) (waiter_for who wait)).0 (wait, its, other, refl, refl)).0))

    own : (other : Pending) → HasWait a who other → other ≡ wait
    own other is = let e : Some other ≡ Some wait = sym is ∙ its in cc

    -- it has no other
    alone : (number id : ℕ) (settled : Option Settled) → IsWait (system_of a) who number id settled
        → (wait.number ≡ number) × (wait.id ≡ id) × (wait.settled ≡ settled)
    alone number id settled is =
        wait-cases (system_of a) who number id ((wait.number ≡ number) × (wait.id ≡ id) × (wait.settled ≡ settled)) settled is
        (λ granted among. (
        let h = (says.won number id).1 among in
        let same = own h.0 h.1 in
        (ap (λ (w : Pending). w.number) (sym same) ∙ h.3, ap (λ (w : Pending). w.id) (sym same) ∙ h.4, ap (λ (w : Pending). w.settled) (sym same) ∙ h.2 ∙ sym granted)))
        (λ other among. (
        let h = (says.waits among.0 _).1 (among.2, refl) in
        let same = own h.0 h.1 in (
          ap (λ (w : Pending). w.number) (sym same) ∙ sym (ap (λ (w : Waiter). w.wait) h.4),
          ap (λ (w : Pending). w.id) (sym same) ∙ sym (ap (λ (w : Waiter). w.ticket.number) h.4),
          ap (λ (w : Pending). w.settled) (sym same) ∙ state-settled h.0.settled settled h.2 other (sym (ap (λ (w : Waiter). w.state) h.4)),
        )))

    pub of-wait : (Without : Right) (Then : ℕ → ℕ → Option Settled → Right) (x : Answer) → IsAnswer (Then wait.number wait.id wait.settled) x
        → IsAnswer (OfWait (system_of a) who Without Then) x
    of-wait Without Then x right y = (there, λ is. inl (wait.number, wait.id, wait.settled, stands, (right y).1 is))
      where
        there : OfWait (system_of a) who Without Then y → y ≡ x
        there (inl (number, id, settled, is, rest)) =
            let same = alone number id settled is in
            (right y).0 (subst (λ w. Then wait.number wait.id w y) (sym same.2)
            (subst (λ n. Then wait.number n settled y) (sym same.1) (subst (λ n. Then n id settled y) (sym same.0) rest)))
        there (inr (none, rest)) = absurd (let e : None ≡ Some wait = sym (says.free.1 none) ∙ its in cc)

  -- ---- tickets

  rising : AllPairs below (seat_at who a).held
  rising = pairs-from_rising (seat_at who a).held (tied.numbered who has).rising

  -- what the session holds in the system is one of its tickets
  in-hand : (ticket : Holding) → IsHeld (system_of a) who ticket → (held : Held) × Contains (seat_at who a).held held × (ticket ≡ holding_of who held a)
  in-hand ticket is = Contains-map_from (λ (t : Held). holding_of who t a) (seat_at who a).held ticket ((says.held.1 ticket).1 is)

  -- by the ticket of a number
  pub of-ticket : (id : ℕ) (held : Held) (Then : Holding → Right) (x : Answer) → held_ticket who id a ≡ Some held
      → IsAnswer (Then (holding_of who held a)) x → IsAnswer (OfHolding (system_of a) who id Then) x
  of-ticket id held Then x found right y = (there, λ is. inl (holding_of who held a, held-in a who held tied has first.0, number, (right y).1 is))
    where
      first : Contains (seat_at who a).held held × (is_number id held ≡ true)
      first = found-first (is_number id) (seat_at who a).held held found

      number : held.id ≡ id
      number = eqb-true _ _ first.1

      there : OfHolding (system_of a) who id Then y → y ≡ x
      there (inl (ticket, is, named, rest)) =
          let mine = in-hand ticket is in
          let same : mine.0 ≡ held =
          same-number (seat_at who a).held rising mine.0 held mine.1 first.0 (sym (ap (λ (h : Holding). h.number) mine.2) ∙ named ∙ sym number) in
          (right y).0 (subst (λ t. Then t y) (mine.2 ∙ ap (λ t. holding_of who t a) same) rest)
      there (inr (none, rest)) = absurd (none (holding_of who held a) (held-in a who held tied has first.0) number)

  pub no-ticket : (id : ℕ) (Then : Holding → Right) → held_ticket who id a ≡ None → IsAnswer (OfHolding (system_of a) who id Then) (Refused NotHeld)
  no-ticket id Then lacks y = (there, λ is. inr (none, is))
    where
      none : (ticket : Holding) → IsHeld (system_of a) who ticket → ticket.number ≢ id
      none ticket is named =
          let mine = in-hand ticket is in
          let number : (mine.0).id ≡ id = sym (ap (λ (h : Holding). h.number) mine.2) ∙ named in
          (none-found (is_number id) (seat_at who a).held).0 lacks mine.0 mine.1 ((Decides-eqb (mine.0).id id).1 number)

      there : OfHolding (system_of a) who id Then y → y ≡ Refused NotHeld
      there (inl (ticket, is, named, rest)) = absurd (none ticket is named)
      there (inr (lacking, rest)) = rest

  -- ---- all that is held

  hand-to : (held : Held) → Contains (seat_at who a).held held → HoldsAtPlace (system_of a) (places_of a) who held
  hand-to held among =
      (key_at held.place a, key_of-place a held.place (ticket-key a who held tied has (inl (inl among))), held-in a who held tied has among)

  hand-from : (held : Held) → HoldsAtPlace (system_of a) (places_of a) who held → Contains (seat_at who a).held held
  hand-from held (key, there, is) =
      let at = place-of_key a held.place key there in
      let mine = in-hand (record { session = who; number = held.id; key = key; mode = held.mode }) is in
      let placed = ticket-key a who mine.0 tied has (inl (inl mine.1)) in
      let keys : key_at held.place a ≡ key_at (mine.0).place a = at.1 ∙ ap (λ (h : Holding). h.key) mine.2 in
      let place : held.place ≡ (mine.0).place = tied.keys held.place (mine.0).place at.0 placed keys in
      let number : held.id ≡ (mine.0).id = ap (λ (h : Holding). h.number) mine.2 in
      let mode : held.mode ≡ (mine.0).mode = ap (λ (h : Holding). h.mode) mine.2 in
      let same : mine.0 ≡ held = (λ i. record { id = sym number i; place = sym place i; mode = sym mode i }) in
      subst (Contains (seat_at who a).held) same mine.1

  pub lists : IsAnswer (ToList (system_of a) (places_of a) who) (Holds (seat_at who a).held)
  lists y = (there, λ is. ((seat_at who a).held, is, rising, λ held. (hand-to held, hand-from held)))
    where
      there : ToList (system_of a) (places_of a) who y → y ≡ Holds (seat_at who a).held
      there (tickets, is, rises, each) =
          is ∙ ap (λ ts. Holds ts) (same-rising tickets (seat_at who a).held rises rising
          (λ held. ((λ among. hand-from held ((each held).0 among)), λ among. (each held).1 (hand-to held among))))

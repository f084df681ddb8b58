-- A space without a deadlock: what calls leave it so.
use Rattle.std.proofs.Common.{◌≡◌, ℕ, zero, suc, ◌+◌, ◌-◌, ◌≤◌, Bool, true, false, length, Option, Some, None, refl, sym, ap, subst, ◌∙◌}
use Rattle.std.proofs.lemmas.Bool.{false≢true}
use Rattle.std.proofs.lemmas.List.{length-set}
use Rattle.mdl_calls.specs.Words.{Answer, Call, Begin_wait, takes_memory}
use Rattle.mdl_core.specs.Changes.{Change, Admit, Settle, is_of_book, admitting_if, admitting_up_to, booked_if, after_change, next_ready, seat_after, book_after}
use Rattle.mdl_core.specs.CoreCalls.{outcome}
use Rattle.mdl_core.specs.CoreJoins.{Joins, SpeaksFor}
use Rattle.mdl_core.specs.CoreSystems.{system_of}
use Rattle.mdl_core.specs.Cores.{Core, book_at, seat_at, seating}
use Rattle.mdl_core.specs.RunLaws.{IsMadeFor}
use Rattle.mdl_core.specs.Seats.{with_pin}
use Rattle.mdl_core.specs.SearchLaws.{call_begins_wait}
use Rattle.mdl_core.specs.Ties.{IsTied}
use Rattle.mdl_book.specs.declared.ticket.Ticket.{Ticket}
use Rattle.mdl_core.proofs.CallDeadlocks.{only-new_waits}
use Rattle.mdl_core.proofs.CallLaws.{core-keeps, joins-comes}
use Rattle.mdl_core.proofs.CoreSound.{calls_keep-sound}
use Rattle.mdl_core.proofs.PinnedSeats.{repinned}
use Rattle.mdl_core.proofs.Ways.{Way, Stay, Repin, Open, Replace, Settle_wait, Make, makes_room, served_if, space_by}
use Rattle.mdl_system.specs.Deadlocks.{DeadlocksGoThrough, HasNoDeadlock}
use Rattle.mdl_script_laws.proofs.OutcomeLemmas.{joins-outcome}

-- ---- there are as many sessions after a call as before it

seats-changing : (a : Core) (who place : ℕ) (change : Change) → length (after_change who place change a).seats ≡ length a.seats
seats-changing a who place change = by (is_of_book change) where
  seated : Core
  seated = seating who (seat_after place change (seat_at who a)) a

  by : (t : Bool) → length (booked_if t place (book_after who (seat_at who a) change (book_at place a)) seated).seats ≡ length a.seats
  by true = length-set a.seats (who - 1) (seat_after place change (seat_at who a))
  by false = length-set a.seats (who - 1) (seat_after place change (seat_at who a))

seats-admitting : (a : Core) (place : ℕ) (ready : Option Ticket) → length (admitting_if place ready a).seats ≡ length a.seats
seats-admitting a place None = refl
seats-admitting a place (Some ticket) = seats-changing a ticket.session place (Admit ticket)

seats-granting : (n : ℕ) (a : Core) (place : ℕ) → length (admitting_up_to n place a).seats ≡ length a.seats
unfolding admitting_up_to
seats-granting zero a place = refl
seats-granting (suc n) a place =
    seats-granting n (admitting_if place (next_ready place a) a) place ∙ seats-admitting a place (next_ready place a)

seats-served : (a : Core) (room : Bool) (place : ℕ) → length (served_if room place a).seats ≡ length a.seats
seats-served a true place = seats-granting (length (book_at place a).waiting) a place
seats-served a false place = refl

-- whichever way it goes
seats-by : (a : Core) (way : Way) → length (space_by way a).seats ≡ length a.seats
seats-by a Stay = refl
seats-by a (Repin who pins) = length-set a.seats (who - 1) (repinned pins (seat_at who a))
seats-by a (Open who key) = length-set a.seats (who - 1) (with_pin (length a.books + 1) (seat_at who a))
seats-by a (Replace who place key) = length-set a.seats (who - 1) (with_pin place (seat_at who a))
seats-by a (Settle_wait who place how) = seats-changing a who place (Settle how)
seats-by a (Make who place change) = seats-served (after_change who place change a) (makes_room change) place ∙ seats-changing a who place change

pub seats-joined : (a b : Core) (call : Call) (answer : Answer) → IsTied a → Joins a call answer b → length b.seats ≡ length a.seats
seats-joined a b call answer tied joins =
    let h = joins-comes a b call answer tied joins in
    sym (ap (λ (c : Core). length c.seats) h.leads) ∙ seats-by a h.way

-- ---- a space without a deadlock

-- it speaks for the session, and has no more sessions than searches are made at once
pub record IsManaged (who : ℕ) (core : Core) : Type 0 where
  pub speaks : SpeaksFor core who
  pub few : length core.seats ≤ 1024

-- and there is no deadlock in it
pub record IsCalm (who : ℕ) (core : Core) : Type 0 where
  pub managed : IsManaged who core
  pub free : HasNoDeadlock (system_of core)

pub still-managed : (who : ℕ) (a b : Core) (call : Call) (answer : Answer) → IsManaged who a → Joins a call answer b → IsManaged who b
still-managed who a b call answer managed joins = record {
  speaks = core-keeps calls_keep-sound a b call answer who managed.speaks joins;
  few = subst (λ n. n ≤ 1024) (sym (seats-joined a b call answer managed.speaks.1.tied joins)) managed.few;
}

-- a call whose answer begins no wait leaves it so
pub calm-joined : (who : ℕ) (a b : Core) (call : Call) (answer : Answer) → ((session : ℕ) → call_begins_wait call answer session ≡ false) → Joins a call answer b
    → IsCalm who a → IsCalm who b
calm-joined who a b call answer quiet joins calm = record {
  managed = still-managed who a b call answer calm.managed joins;
  free = λ from cycle is. (
      let none : DeadlocksGoThrough (λ _. false) (system_of a) = λ first other is_one. absurd (calm.free first other is_one) in
      let h = only-new_waits a b call answer (λ _. false) calm.managed.speaks.1 joins none from cycle is in
      false≢true (sym (quiet h.0) ∙ h.2));
}

-- a call that begins no wait, whatever its answer
abbrev pub IsQuiet : Call → Type 0
IsQuiet call = (answer : Answer) (session : ℕ) → call_begins_wait call answer session ≡ false

pub calm-call : (who : ℕ) (call : Call) (a : Core) → IsMadeFor who call → IsQuiet call → IsCalm who a → IsCalm who (outcome call a).1
calm-call who call a made quiet calm =
    calm-joined who a (outcome call a).1 call (outcome call a).0 (quiet (outcome call a).0) (joins-outcome who a call calm.managed.speaks made) calm

-- no wait begins without memory
pub frugal-quiet : (call : Call) → takes_memory call ≡ false → IsQuiet call
frugal-quiet (Begin_wait who place mode) takes = cc
frugal-quiet _ takes = λ answer session. refl

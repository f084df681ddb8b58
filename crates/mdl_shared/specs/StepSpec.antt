-- What a session's call promises of its steps on the shared table, by aspects (`StepSpec`), and that it keeps that (`TakesSteps`). `Joins` says beside it,
-- as plain data, what the session has after the call.
use Rattle.std.specs.Prelude.{◌≡◌, ℕ, List, [], Option, None, IfSome}
use Rattle.mdl_shared.specs.Prelude.{Answer, Deed, Does, Granted, Refused, SessionTicket, SettlesNothing, SpaceError}
use Rattle.mdl_shared.specs.Debts.{KeepsDebts, OwesNoMore}
use Rattle.mdl_shared.specs.SessionViews.{Lists, SessionView, lists_seen, tickets_seen}
use Rattle.mdl_shared.specs.Steps.{MakesNoStep}
use Rattle.mdl_shared.specs.TicketLists.{KeepsRoom}

-- a call, by what it promises of its steps
pub record StepSpec : Type 1 where
  -- why the places that the session pins and its own lists refuse the call, if they do: then no step is made
  pub fault : List ℕ → Lists → Option SpaceError
  -- the deeds, by the answer: what the steps do to the session's own tickets
  pub did : Answer → List SessionTicket → List Deed
  -- which waits the steps settle, by the answer. If waits at a place are granted, `HasRescheduled` says which, and for a search `Searched`
  pub settled : Answer → Lists → SessionView → SessionView → Type 0
  -- what becomes of what the session knows of its own wait
  pub told : SessionView → SessionView → Type 0
  -- what the call leaves of what the session owes, by the answer, and of whether it has yet to search for a deadlock. Where waits are granted, `Pays` says
  -- which place isn't owed any more
  pub owes : Answer → SessionView → SessionView → Type 0
  -- which steps are made and what they meet, by the answer. Where a call has a `met` of its own, what is no answer to it is excluded
  pub met : Answer → Lists → SessionView → SessionView → Type 0

-- the call without steps: an aspect that a file of `calls` leaves out is as here, which is the most that it can promise. Only `fault` is different: without
-- one it says nothing of refusals, and the call may still be refused, as `list_held` for lack of memory, and `unpin` by its `met`
abbrev pub no_steps : StepSpec
no_steps = record {
  fault = λ pins l. None;
  did = λ answer tickets. [];
  settled = λ answer l a b. SettlesNothing a.me b.me;
  told = λ a b. b.me.0.told ≡ a.me.0.told;
  owes = λ answer a b. KeepsDebts a b;
  met = λ answer l a b. MakesNoStep a b;
}

-- the number of tickets that the session gains by a call with this answer
abbrev pub gained_by : Answer → ℕ
gained_by (Granted id) = 1
gained_by _ = 0

-- a call with this answer takes the one session to the other by its steps. The session stays at the same table (`table`) of the same space (`sessions`).
-- If its pins and its own lists refuse the call, that is the answer, and no step is made (`refused`). The call's steps did these deeds, and no others (`did`), settled
-- these waits, and no others (`settled`), changed what the session knows of its own wait only if the call may do that (`told`), and met this (`met`). The
-- room for tickets that there was is still there, except for the ticket gained (`room`). The session owes no place a reschedule that it didn't owe one
-- before (`debts`), and what it owed it still owes, except after a call that grants waits (`owes`)
pub record TakesSteps (call : StepSpec) (answer : Answer) (a b : SessionView) : Type 0 where
  pub table : b.table ≡ a.table
  pub sessions : b.sessions ≡ a.sessions
  pub refused : IfSome (call.fault a.pins (lists_seen a.me.0)) (λ why. (answer ≡ Refused why) × MakesNoStep a b)
  pub did : Does (call.did answer (tickets_seen a.me.0)) a.me b.me
  pub settled : call.settled answer (lists_seen a.me.0) a b
  pub told : call.told a b
  pub met : call.met answer (lists_seen a.me.0) a b
  pub room : KeepsRoom (gained_by answer) a.room b.room
  pub debts : OwesNoMore a b
  pub owes : call.owes answer a b

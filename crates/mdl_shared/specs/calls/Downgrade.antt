-- A weaker mode of a held ticket: in one visit to its place, where the waits that can be granted then are granted.
use Rattle.std.specs.Prelude.{◌≡◌, ℕ, List, [], ◌∷◌, Option, Some}
use Rattle.mdl_shared.specs.FirstWords.{Alter, Answer, Deed, Done, KeepsDebts, Lists, MeetsTicket, Mode, OfTicket, Refused, Reschedules, SessionTicket, SessionView, SettlesNothing, SpaceError, StepSpec, all_tickets, downgrade_fault, no_steps, numbered}

-- why the session's own lists refuse it
abbrev pub own_fault : ℕ → Mode → Lists → Option SpaceError
own_fault id mode l = downgrade_fault (numbered id (all_tickets l)) mode l.known

-- the ticket gets the mode
abbrev pub did : ℕ → Mode → Answer → List SessionTicket → List Deed
did id mode Done tickets = Alter id mode ∷ []
did id mode _ tickets = []

-- a downgrade may settle waits: `HasRescheduled` of mdl_visits/specs/Grantings says which
abbrev pub settled : Answer → Lists → SessionView → SessionView → Type 0
settled Done l a b = Unit {0}
settled _ l a b = SettlesNothing a.me b.me

-- what the place is owed is paid: `Pays` says that. A session that has yet to search still has
abbrev pub owes : Answer → SessionView → SessionView → Type 0
owes Done a b = b.me.0.searches ≡ a.me.0.searches
owes _ a b = KeepsDebts a b

-- which steps were made, and what they met
abbrev pub met : ℕ → Mode → Answer → Lists → SessionView → SessionView → Type 0
met id mode Done l a b = OfTicket id l (MeetsTicket id (Alter id mode ∷ []) a b) × OfTicket id l (Reschedules a b)
met id mode (Refused why) l a b = own_fault id mode l ≡ Some why
met id mode _ l a b = ⊥

-- the call. If the session's own wait is at the place, it may learn that it is settled
abbrev pub downgrade : ℕ → Mode → StepSpec
downgrade id mode = record no_steps {
  fault = λ pins. own_fault id mode;
  did = did id mode;
  told = λ a b. Unit {0};
  settled = settled;
  owes = owes;
  met = met id mode;
}

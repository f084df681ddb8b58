-- The release of a held ticket: of a slow one in one visit to its place, of a fast one by one step on the word of the place. The waits there that can be
-- granted then are granted. After a fast release the place is visited only if a session may be waiting there.
use Rattle.std.specs.Prelude.{◌≡◌, ℕ, List, [], ◌∷◌, Some}
use Rattle.mdl_shared.specs.FirstWords.{Answer, Deed, Done, GivesUpFast, GivesUpSlow, KeepsDebts, Lists, Lose, OfTicket, Refused, SessionTicket, SessionView, SettlesNothing, StepSpec, all_tickets, holding_fault, no_steps, numbered}

-- the ticket is lost
abbrev pub did : ℕ → Answer → List SessionTicket → List Deed
did id Done tickets = Lose id ∷ []
did id _ tickets = []

-- a release may settle waits: `HasRescheduled` of mdl_visits/specs/Grantings says which
abbrev pub settled : Answer → Lists → SessionView → SessionView → Type 0
settled Done l a b = Unit {0}
settled _ l a b = SettlesNothing a.me b.me

-- where waits are granted, what the place is owed is paid: `Pays` says that. A session that has yet to search still has
abbrev pub owes : Answer → SessionView → SessionView → Type 0
owes Done a b = b.me.0.searches ≡ a.me.0.searches
owes _ a b = KeepsDebts a b

-- which steps were made, and what they met
abbrev pub met : ℕ → Answer → Lists → SessionView → SessionView → Type 0
met id Done l a b =
    OfTicket id l (λ t. (numbered id l.slow ≡ Some t → GivesUpSlow id a b t) × (numbered id l.fast ≡ Some t → GivesUpFast id a b t))
met id (Refused why) l a b = holding_fault id (all_tickets l) ≡ Some why
met id _ l a b = ⊥

-- the call. If the session's own wait is at the place, it may learn that it is settled
abbrev pub release : ℕ → StepSpec
release id = record no_steps {
  fault = λ pins l. holding_fault id (all_tickets l);
  did = did id;
  told = λ a b. Unit {0};
  settled = settled;
  owes = owes;
  met = met id;
}

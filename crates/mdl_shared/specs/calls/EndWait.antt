-- The end of the session's wait, once it is settled. The first step reads the word of the wait. If the wait is unsettled, no other follows. A granted one
-- ends by one step more. A lost one ends in one visit to its place, where the waits that can be granted then are granted.
use Rattle.std.specs.Prelude.{◌≡◌, ◌⊎◌, Some}
use Rattle.mdl_calls.specs.declared.space_error.SpaceError.TheVariants as cause
use Rattle.mdl_shared.specs.FirstWords.{Answer, Ask, EndsByOneStep, EndsOwnWait, Granted, HasRescheduled, KeepsDebts, Lists, LooksThen, Lost, Pays, Refused, SessionView, SettlesNothing, StepSpec, VisitsOnce, granted_state, mine_without_wait, no_steps, settled_state, unsettled_state, wait_fault}

-- the end of a lost wait may settle waits of others: `HasRescheduled` of mdl_visits/specs/Grantings says which
abbrev pub settled : Answer → Lists → SessionView → SessionView → Type 0
settled (Lost how) l a b = Unit {0}
settled _ l a b = SettlesNothing a.me b.me

-- the end of a lost wait pays what its place is owed: `Pays` says that. A session that has yet to search still has
abbrev pub owes : Answer → SessionView → SessionView → Type 0
owes (Lost how) a b = b.me.0.searches ≡ a.me.0.searches
owes _ a b = KeepsDebts a b

-- which steps were made, and what they met
abbrev pub met : Answer → Lists → SessionView → SessionView → Type 0
met (Granted id) l a b = LooksThen granted_state l a (EndsByOneStep granted_state l a b)
met (Lost how) l a b =
    EndsOwnWait (settled_state how) l a b
    × ((ask : Ask) × (l.asks ≡ Some ask) × HasRescheduled a.table ask.place (mine_without_wait a.me) b.me
    × LooksThen (settled_state how) l a (λ mid. VisitsOnce ask.place mid b.me) × Pays ask.place a.me b.me)
met (Refused why) l a b = (wait_fault l.asks ≡ Some why) ⊎ ((why ≡ cause.Unsettled) × LooksThen unsettled_state l a (λ mid. b.me ≡ mid))
met _ l a b = ⊥

-- the call. It does no deed: a granted wait's ticket is in the book already. The session may learn how its wait is settled, and knows nothing of it once it
-- is ended
abbrev pub end_wait : StepSpec
end_wait = record no_steps { fault = λ pins l. wait_fault l.asks; told = λ a b. Unit {0}; settled = settled; owes = owes; met = met }

-- The version and the definition at a held ticket's place: in one visit to the place.
use Rattle.std.specs.Prelude.{◌≡◌, ◌⊎◌, ℕ, Some}
use Rattle.mdl_calls.specs.declared.space_error.SpaceError.TheVariants as cause
use Rattle.mdl_shared.specs.FirstWords.{Answer, Lists, OfTicket, Reads, ReadsByLatch, Refused, SessionView, StepSpec, VisitsInVain, all_tickets, holding_fault, no_steps}

-- which steps were made, and what they met. For lack of memory the visit is in vain
abbrev pub met : ℕ → Answer → Lists → SessionView → SessionView → Type 0
met id (Reads version definition) l a b = OfTicket id l (λ t. ReadsByLatch id t (record { version = version; definition = definition }) a b)
met id (Refused why) l a b =
    (holding_fault id (all_tickets l) ≡ Some why) ⊎ ((why ≡ cause.OutOfMemory) × OfTicket id l (λ t. VisitsInVain t.place a b))
met id _ l a b = ⊥

-- the call
abbrev pub read_definition : ℕ → StepSpec
read_definition id = record no_steps { fault = λ pins l. holding_fault id (all_tickets l); met = met id }

-- The version and the definition at a held ticket's place, with the session's cache: one step reads the version without the latch. Either that suffices, or
-- the place is visited once after it. Which of the two, by the cache: `ReadsKept` of `KeptReads`.
use Rattle.std.specs.Prelude.{◌≡◌, ◌⊎◌, ℕ, Some}
use Rattle.mdl_calls.specs.declared.space_error.SpaceError.TheVariants as cause
use Rattle.mdl_shared.specs.FirstWords.{Answer, FindsVersion, Lists, MissesVersion, OfTicket, Reads, ReadsByLatch, Refused, SessionView, StepSpec, VersionedDefinition, VisitsInVain, all_tickets, holding_fault, no_steps}

-- which steps were made, and what they met. Memory may run out for a copy of what the cache keeps, or in the visit, which is in vain then
abbrev pub met : ℕ → Answer → Lists → SessionView → SessionView → Type 0
met id (Reads version definition) l a b =
    OfTicket id l (λ t. FindsVersion t.place (record { version = version; definition = definition }) a b
    ⊎ ((found : ℕ) × (mid : SessionView) × MissesVersion t.place found a mid × ReadsByLatch id t (record { version = version; definition = definition }) mid b))
met id (Refused why) l a b =
    (holding_fault id (all_tickets l) ≡ Some why)
    ⊎ ((why ≡ cause.OutOfMemory) × OfTicket id l (λ t. ((standing : VersionedDefinition) × FindsVersion t.place standing a b)
    ⊎ ((found : ℕ) × (mid : SessionView) × MissesVersion t.place found a mid × VisitsInVain t.place mid b)))
met id _ l a b = ⊥

-- the call
abbrev pub read_kept : ℕ → StepSpec
read_kept id = record no_steps { fault = λ pins l. holding_fault id (all_tickets l); met = met id }

-- The state of the session's wait: one step, which reads the word of the wait.
use Rattle.std.specs.Prelude.{◌≡◌, Some}
use Rattle.mdl_shared.specs.FirstWords.{Answer, Is_settled, Lists, MeetsOwnWait, Pending, Refused, SessionView, StepSpec, no_steps, settled_state, unsettled_state, wait_fault}

-- which step was made, and what it met
abbrev pub met : Answer → Lists → SessionView → SessionView → Type 0
met Pending l a b = MeetsOwnWait unsettled_state l a b
met (Is_settled how) l a b = MeetsOwnWait (settled_state how) l a b
met (Refused why) l a b = wait_fault l.asks ≡ Some why
met _ l a b = ⊥

-- the call. The session may learn that its wait is settled
abbrev pub poll_wait : StepSpec
poll_wait = record no_steps { fault = λ pins l. wait_fault l.asks; told = λ a b. Unit {0}; met = met }

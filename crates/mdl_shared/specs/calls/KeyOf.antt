-- The key of a place, by the session's own lists: no step.
use Rattle.mdl_shared.specs.FirstWords.{StepSpec, naming_fault, no_steps, ℕ}

-- the call
abbrev pub key_of : ℕ → StepSpec
key_of place = record no_steps { fault = λ pins l. naming_fault place l.known }

-- How waits are settled, after MySQL 5.7: `MDL_wait` of sql/mdl.h. A settled wait stays so until it is ended.
use Rattle.std.specs.Prelude.{◌≡◌, ℕ}
use Rattle.mdl_calls.specs.declared.answers.Settled.{Settled}
use Rattle.mdl_calls.specs.declared.answers.Settled.TheVariants as settled_as
use Rattle.mdl_calls.specs.Interface.{Answer, Granted, Lost}

-- the answer to the end of a wait that is settled in this way
abbrev pub IsEndOf : Settled → Answer → Type 0
IsEndOf settled_as.Granted answer = (id : ℕ) × (answer ≡ Granted id)
IsEndOf how answer = answer ≡ Lost how

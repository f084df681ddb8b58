-- Sessions over one lock space, that of one thread.
use Rattle.std.specs.Prelude.{◌≢◌, ℕ}
use Rattle.mdl_calls.specs.Words.{HasNothing}
use Rattle.mdl_core.specs.Words.{Core, SpeaksFor, locks_at}

-- the space speaks for a session that holds no ticket and has no wait
pub record IsFreeSession (space : Core) (who : ℕ) : Type 0 where
  pub speaks : SpeaksFor space who
  pub nothing : HasNothing (locks_at space who)

-- calls of one session that leave every other session free if it was free before
abbrev pub LeavesFree : ℕ → Core → Core → Type 0
LeavesFree who before after = (w : ℕ) → w ≢ who → IsFreeSession before w → IsFreeSession after w

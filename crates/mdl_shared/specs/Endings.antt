-- How a session's lost wait ends.
use Rattle.mdl_calls.specs.declared.answers.Ended.TheVariants as ended
use Rattle.mdl_calls.specs.declared.answers.Settled.TheVariants as settled
use Rattle.mdl_shared.specs.Prelude.{Ended, None, Option, Settled, Some}

-- how a lost wait ends, by how it was settled
abbrev pub lost_end : Settled → Option Ended
lost_end settled.Granted = None
lost_end settled.Victim = Some ended.Victim
lost_end settled.Timeout = Some ended.Timeout
lost_end settled.Killed = Some ended.Killed

-- The timeout of the session's wait: one step, which settles the wait as timed out if it met it unsettled.
use Rattle.std.specs.Prelude.{◌≡◌, Some}
use Rattle.mdl_steps.specs.declared.wait_word.Loss.TheVariants as loss
use Rattle.mdl_shared.specs.FirstWords.{Already, Answer, ByThisCall, Lists, MeetsOwnWait, Refused, SessionView, Settles, SettlesNothing, StepSpec, Timed_out, lost_state, no_steps, settled_state, unsettled_state, wait_fault}

-- the session's own wait is settled if this call did it, and no other
abbrev pub settled : Answer → Lists → SessionView → SessionView → Type 0
settled (Timed_out ByThisCall) l a b = Settles a.me.0.number l.waits (lost_state loss.Timeout) a.me b.me
settled _ l a b = SettlesNothing a.me b.me

-- which step was made, and what it met
abbrev pub met : Answer → Lists → SessionView → SessionView → Type 0
met (Timed_out ByThisCall) l a b = MeetsOwnWait unsettled_state l a b
met (Timed_out (Already how)) l a b = MeetsOwnWait (settled_state how) l a b
met (Refused why) l a b = wait_fault l.asks ≡ Some why
met _ l a b = ⊥

-- the call. The session may learn that its wait is settled
abbrev pub settle_timeout : StepSpec
settle_timeout = record no_steps { fault = λ pins l. wait_fault l.asks; told = λ a b. Unit {0}; settled = settled; met = met }

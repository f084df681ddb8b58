-- `search`: a search for a deadlock that the session's wait is part of. The answer names the victim of one, or says that there is none. If the session itself
-- is the victim, it then knows that its wait is settled so. Of another victim nothing is said here: that its wait is settled so is a law of a space that
-- speaks for it (`victims`). The call is refused only if memory runs out. It changes no ticket, ends no wait, learns no key and reads nothing.
use Rattle.std.specs.Prelude.{◌≡◌, ℕ, Bool, true, false, Some}
use Rattle.mdl_calls.specs.FirstWords.{Answer, CallSpec, No_cycle, Refused, SessionData, Victim_is, memory_cause, unchanged}
use Rattle.mdl_calls.specs.declared.answers.Settled.TheVariants as settled_as

-- its answers
abbrev pub answers : Answer → Bool
answers (Refused why) = true
answers No_cycle = true
answers (Victim_is victim) = true
answers _ = false

-- if the session itself is the victim, it now knows that its wait is settled so. Of another victim nothing is said.
abbrev pub says : Answer → SessionData → SessionData → Type 0
says (Victim_is victim) a b = victim ≡ a.number → b.settled ≡ Some settled_as.Victim
says No_cycle a b = Unit {0}
says (Refused why) a b = Unit {0}
says _ a b = ⊥

-- the call
abbrev pub search_deadlock : ℕ → CallSpec
search_deadlock who = record (unchanged who) { takes_memory = true; answers = answers; cause = memory_cause; says = says }

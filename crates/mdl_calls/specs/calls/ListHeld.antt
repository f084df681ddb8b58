-- `held`: the tickets that the session holds, in the order in which it got them. It is refused only if memory runs out, and changes nothing.
use Rattle.std.specs.Prelude.{◌≡◌, ℕ, Bool, true, false}
use Rattle.mdl_calls.specs.FirstWords.{Answer, CallSpec, Holds, Refused, SessionData, memory_cause, unchanged}

-- its answers
abbrev pub answers : Answer → Bool
answers (Refused why) = true
answers (Holds tickets) = true
answers _ = false

-- they are those that it holds
abbrev pub says : Answer → SessionData → SessionData → Type 0
says (Holds tickets) a b = tickets ≡ a.own.held
says (Refused why) a b = Unit {0}
says _ a b = ⊥

-- the call
abbrev pub list_held : ℕ → CallSpec
list_held who = record (unchanged who) { takes_memory = true; answers = answers; cause = memory_cause; says = says }

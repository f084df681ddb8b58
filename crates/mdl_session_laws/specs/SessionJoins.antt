-- The relation of a call to the session before it and after it, by the call's specification, and some aspects of that as functions of the call.
use Rattle.std.specs.Prelude.{Bool, List, Option}
use Rattle.mdl_calls.specs.AllCalls.{spec_of}
use Rattle.mdl_calls.specs.Effects.{Effect}
use Rattle.mdl_session_laws.specs.Prelude.{Answer, Call, KnownKey, SessionData, Settled, Transition, ends}

-- a call with this answer takes the first session to the second
abbrev pub Joins : SessionData → Call → Answer → SessionData → Type 0
Joins a call answer b = Transition (spec_of call) answer a b

-- what a call with this answer does to what the session has
abbrev pub effect_of : Call → Answer → Effect
effect_of call answer = (spec_of call).effect answer

-- the keys that the session knows after a call with this answer
abbrev pub LearnsKeys : Call → Answer → List KnownKey → List KnownKey → Type 0
LearnsKeys call answer before after = (spec_of call).learns answer before after

-- the state in which the call met the caller's wait, if the answer says that: not settled, or settled in this way
abbrev pub wait_met : Call → Answer → Option (Option Settled)
wait_met call answer = (spec_of call).met answer

-- whether a call with this answer ended its caller's wait
abbrev pub ends_wait : Call → Answer → Bool
ends_wait call answer = ends (effect_of call answer)

-- what the session reads and notes by a call with this answer
abbrev pub LetsRead : Call → Answer → SessionData → SessionData → Type 0
LetsRead call answer a b = (spec_of call).reads answer a b

-- what an answer says of the session itself. The victim of a search, and the session whose wait is asked for or killed, may be another one: of that nothing
-- is said.
abbrev pub TellsTruly : Call → Answer → SessionData → SessionData → Type 0
TellsTruly call answer a b = (spec_of call).says answer a b

-- The code of a space's answer, and what is written with it.
use Rattle.std.specs.Prelude.{◌≡◌, ℕ, false, List, map, Option, Some, None}
use Rattle.mdl_calls.specs.declared.answers.TimedOut.TheVariants as timeout
use Rattle.mdl_calls.specs.Words.{Answer, Refused, At_place, Granted, Would_wait, Waits, Victim_is, Pending, Is_settled, Timed_out, Lost, Has_killed, Has_wait, Holds}
use Rattle.mdl_c_parts.specs.declared.rows.HeldRow.{HeldRow}
use Rattle.mdl_c_parts.specs.Codes.{cause_code, no_session, no_wait, settled_code, would_wait}
use Rattle.mdl_c_parts.specs.Rows.{IsKept, IsListWritten, held_row}

-- the code of an answer of the space
abbrev pub code_of : Answer → ℕ
code_of (Refused cause) = cause_code cause
code_of Would_wait = would_wait
code_of (Waits _) = 2
code_of Pending = 2
code_of (Victim_is _) = 3
code_of (Is_settled how) = settled_code how
code_of (Timed_out timeout.ByThisCall) = 4
code_of (Timed_out (timeout.Already how)) = settled_code how
code_of (Lost how) = settled_code how
code_of (Has_killed false) = 6
code_of (Has_wait None) = no_wait
code_of _ = 0

-- the number that is written with an answer: a place, a ticket, a wait or a session. If the answer has none, the old number stays.
abbrev pub number_told : Answer → ℕ → ℕ
number_told (At_place place) old = place
number_told (Granted id) old = id
number_told (Waits number) old = number
number_told (Victim_is session) old = session
number_told (Has_wait (Some number)) old = number
number_told _ old = old

-- the code and the number written, when there may be no such session
abbrev pub code_at : Option Answer → ℕ
code_at None = no_session
code_at (Some answer) = code_of answer

abbrev pub told_at : Option Answer → ℕ → ℕ
told_at None old = old
told_at (Some answer) old = number_told answer old

-- ---- what a call writes

-- what a call writes beside its code: a condition on the answer, which there is only if the manager made the call
abbrev pub Beside : Type 1
Beside = Option Answer → Type 0

-- the call writes nothing
abbrev pub Nothing : Beside
Nothing _ = Unit {0}

-- the call writes the answer's number over the old one
abbrev pub Number : ℕ → ℕ → Beside
Number old new answer = new ≡ told_at answer old

-- the tickets that an answer lists are written, in the order in which the session got them. If the answer is no list, nothing is written
abbrev pub HeldTold : List HeldRow → List HeldRow → ℕ → ℕ → Beside
HeldTold before after old_count count (Some (Holds tickets)) = IsListWritten (map held_row tickets) before after count
HeldTold before after old_count count _ = IsKept before after old_count count

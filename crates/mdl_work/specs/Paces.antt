-- How the code's results represent the end of a statement, and of lines.
use Rattle.std.specs.Prelude.{◌≡◌, ℕ, List, Option, Some, None, IsSome, Result, Ok, Err, Vec}
use Rattle.mdl_rows.specs.declared.reply.Reply.{Reply}
use Rattle.mdl_rows.specs.Endings.{Pause, Ends, Begins_to_wait, Waits_on, Faults}
use Rattle.mdl_rows.specs.Sessions.{Session}
use Rattle.mdl_work.specs.Works.{Worked, stopped_for_memory}

-- a statement ended with a reply, or memory ran out
abbrev pub came_to : {E : Type 0} → Result Reply E → Session → Pause
came_to (Ok reply) session = Ends reply session
came_to (Err _) session = Faults session

-- lines were executed, or memory ran out
abbrev pub worked_as : {E Z : Type 0} → Result (Vec (ℕ × Reply) Z) E → Session → Worked
worked_as (Ok answers) session = record { answers = Some answers.items; session = session }
worked_as (Err _) session = stopped_for_memory session

-- the answers to lines, unless memory ran out
abbrev pub answers_in : {E Z : Type 0} → Result (Vec (ℕ × Reply) Z) E → Option (List (ℕ × Reply))
answers_in (Ok answers) = Some answers.items
answers_in (Err _) = None

-- something is left of a statement exactly if it waits, unless memory ran out
abbrev pub LeftWhileWaiting : Pause → Type 0
LeftWhileWaiting (Ends reply session) = session.left ≡ None
LeftWhileWaiting (Begins_to_wait key mode session) = IsSome session.left
LeftWhileWaiting (Waits_on session) = IsSome session.left
LeftWhileWaiting (Faults session) = Unit {0}

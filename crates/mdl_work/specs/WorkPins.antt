-- What a session pins once it has worked off its lines, over any lock space: nothing.
use Rattle.std.specs.Prelude.{ℕ, List, Option}
use Rattle.mdl_calls.specs.declared.lock_space.LockSpace.{Ghosts}
use Rattle.mdl_calls.specs.Words.{HasNothing, Runs}
use Rattle.mdl_syntax.specs.declared.script.Line.{Line}
use Rattle.mdl_rows.specs.declared.reply.Reply.{Reply}
use Rattle.mdl_rows.specs.SessionPins.{PinsNothing}
use Rattle.mdl_work.specs.Works.{newcomer, working_off}

-- a session that has nothing, pins no place and owes no reschedule, is so again after it has worked off its lines, with any patience, whatever the lock space
-- answered, and also if memory ran out
abbrev pub WorkLeavesNoPin : {S : Type 0} → Ghosts S → Type 0
WorkLeavesNoPin {S} members =
    (who patience : ℕ) (lines : List Line) (answers : Option (List (ℕ × Reply))) (a b : S) → members.speaks_for a who → HasNothing (members.own a who)
    → PinsNothing members a who → Runs members.joins a (working_off patience lines (newcomer who)) answers b
    → HasNothing (members.own b who) × PinsNothing members b who

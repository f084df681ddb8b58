-- How a session executes its lines of a script, over any lock space: one statement after the other, and then it releases all. This is
-- the project's own. Patience with a wait is after MySQL 5.7: `MDL_wait::timed_wait` of sql/mdl.cc, whose lock_wait_timeout is a time;
-- here it is counted in looks at the wait.
use Rattle.std.specs.Prelude.{ℕ, zero, suc, ◌+◌, ◌==◌, List, [], ◌∷◌, filter, Option, Some, None}
use Rattle.std.specs.Option.{option_map}
use Rattle.mdl_key.specs.Words.{most_places}
use Rattle.mdl_defs.specs.Caches.{CacheView}
use Rattle.mdl_calls.specs.Words.{Answer, Call, Pending, Poll_wait, Settle_timeout, Program, Give, Ask, Grow, Runs, ◌>>=◌, ◌>>◌}
use Rattle.mdl_syntax.specs.declared.script.Line.{Line}
use Rattle.mdl_syntax.specs.declared.statement.Statement.{Statement}
use Rattle.mdl_rows.specs.declared.reply.Reply.{Reply}
use Rattle.mdl_rows.specs.Endings.{Pause, Ends, Begins_to_wait, Waits_on, Faults}
use Rattle.mdl_rows.specs.Leavings.{leaving}
use Rattle.mdl_rows.specs.MemoryLaws.{session_of_pause}
use Rattle.mdl_rows.specs.Playing.{going_on, starting}
use Rattle.mdl_rows.specs.Sessions.{Session}
use Rattle.mdl_rows.specs.States.{at_first}

-- the lines of a session
abbrev pub lines_of_session : ℕ → List Line → List Line
lines_of_session who lines = filter (λ line. line.session == who) lines

-- a session that has not been asked for anything
abbrev pub newcomer : ℕ → Session
newcomer who = record { context = record { who = who; kept = []; known = []; wait = None }; state = at_first; left = None }

-- ---- waits

-- what follows a look at a wait: more while it isn't settled, otherwise nothing
abbrev pub while_pending : Program (Unit {0}) → Answer → Program (Unit {0})
while_pending more Pending = more
while_pending more _ = Give tt

-- a session looks at its wait until it is settled, at most this number of times. If it still isn't settled, it times out
unfoldable pub waiting_out : ℕ → ℕ → Program (Unit {0})
waiting_out who zero = Ask (Settle_timeout who) (λ _. Give tt)
waiting_out who (suc polls) = Ask (Poll_wait who) (while_pending (waiting_out who polls))

-- ---- statements

-- how often a statement can begin to wait: once for each lock that it asks for. Those are at most `most_locks` of mdl_script_laws, three
-- more than a space has places. Any bound from there on is enough, and this one is two more
abbrev pub most_waits : ℕ
most_waits = 1 + 4 + most_places

-- a session waits until its wait is settled, and continues its statement
abbrev pub going_further : ℕ → Session → Program Pause
going_further patience session = waiting_out session.context.who patience >> going_on session

-- a statement that waits continues, and then more follows. One that is over stays so
abbrev pub finishing_from : ℕ → (Pause → Program Pause) → Pause → Program Pause
finishing_from patience more (Ends reply session) = Give (Ends reply session)
finishing_from patience more (Begins_to_wait key mode session) = going_further patience session >>= more
finishing_from patience more (Waits_on session) = going_further patience session >>= more
finishing_from patience more (Faults session) = Give (Faults session)

-- a statement that still waits is abandoned as if memory had run out. With `most_waits` that never happens
abbrev pub cut_off : Pause → Pause
cut_off (Ends reply session) = Ends reply session
cut_off pause = Faults (session_of_pause pause)

-- a statement is continued until its end, with at most `waits` waits, and this patience with each
unfoldable pub finishing : ℕ → ℕ → Pause → Program Pause
finishing patience zero pause = Give (cut_off pause)
finishing patience (suc waits) pause = finishing_from patience (finishing patience waits) pause

-- a statement is executed to its end
abbrev pub making : ℕ → Statement → Session → Program Pause
making patience statement session = starting statement session >>= finishing patience most_waits

-- ---- lines

-- the answers of a session, each with the number of its line, unless memory ran out, and the session then
pub record Worked : Type 0 where
  pub answers : Option (List (ℕ × Reply))
  pub session : Session

-- an answer, and those that follow
abbrev pub behind : ℕ × Reply → Worked → Worked
behind answer worked = record { answers = option_map (λ more. answer ∷ more) worked.answers; session = worked.session }

-- the session stopped because memory ran out, and returns no answers
abbrev pub stopped_for_memory : Session → Worked
stopped_for_memory session = record { answers = None; session = session }

-- the answer is kept, which takes memory, and then more follows
abbrev pub noted : ℕ → (Session → Program Worked) → Pause → Program Worked
noted number more (Ends reply session) = Grow (Give (stopped_for_memory session)) (more session >>= (λ worked. Give (behind (number, reply) worked)))
noted number more pause = Give (stopped_for_memory (session_of_pause pause))

-- the statements of lines are executed in order, until memory runs out
unfoldable pub working : ℕ → List Line → Session → Program Worked
working patience [] session = Give (record { answers = Some []; session = session })
working patience (line ∷ lines) session = making patience line.statement session >>= noted line.number (working patience lines)

-- a session executes its lines, and then releases all that it has. First it takes memory for its cache of definitions. If there is none,
-- it makes no call
abbrev pub working_off : ℕ → List Line → Session → Program (Option (List (ℕ × Reply)))
working_off patience lines session =
    Grow (Give None) (working patience lines session >>= (λ worked. leaving worked.session >> Give worked.answers))

-- by such calls with its cache, which is empty at first and has this capacity, a session runs a program from one space to the other
abbrev pub RunsFromEmpty : {S A : Type 0} → (S × CacheView → Call → Answer → S × CacheView → Type 0) → ℕ → S → Program A → A → S → Type 0
RunsFromEmpty calls capacity a program reply b = (cache : CacheView) × Runs calls (a, record { kept = []; capacity = capacity }) program reply (b, cache)

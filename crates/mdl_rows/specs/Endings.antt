-- How a statement ends, and which tickets are released then. That a statement whose check failed keeps the locks of its transaction
-- is after MySQL 5.7, the Reference Manual, "Metadata Locking". This project's own choice is that a statement that doesn't get a lock
-- goes back to the mark at its start, and that a transaction stays open if it doesn't get the COMMIT lock.
use Rattle.std.specs.Prelude.{ℕ, Bool, true, false, List, Option, Some, None, if◌then◌else◌}
use Rattle.mdl_key.specs.declared.mode.Mode.{Mode}
use Rattle.mdl_key.specs.Keys.{KeyName}
use Rattle.mdl_calls.specs.declared.answers.Settled.{Settled}
use Rattle.mdl_calls.specs.declared.answers.Settled.TheVariants as settled
use Rattle.mdl_calls.specs.declared.space_error.SpaceError.{SpaceError}
use Rattle.mdl_calls.specs.declared.space_error.SpaceError.TheVariants as space
use Rattle.mdl_calls.specs.Words.{Program, Give, ◌>>=◌}
use Rattle.mdl_context.specs.declared.context_error.ContextError.{ContextError}
use Rattle.mdl_context.specs.declared.context_error.ContextError.TheVariants.{Space}
use Rattle.mdl_context.specs.declared.kept.Kept.{Kept}
use Rattle.mdl_context.specs.declared.request.Mark.{Mark}
use Rattle.mdl_context.specs.Contexts.{beyond_mark, of_statement, of_transaction}
use Rattle.mdl_context.specs.Releases.{releasing, releasing_tickets}
use Rattle.mdl_rows.specs.declared.ending.Ending.{Ending}
use Rattle.mdl_rows.specs.declared.ending.Ending.TheVariants.{Answers, Misses, Falls, Starves}
use Rattle.mdl_rows.specs.declared.error_number.ErrorNumber.TheVariants.{LockWaitTimeout, Deadlock, Interrupted, UserLockDeadlock, NoPlace, Full}
use Rattle.mdl_rows.specs.declared.reply.Reply.{Reply}
use Rattle.mdl_rows.specs.declared.reply.Reply.TheVariants as reply
use Rattle.mdl_rows.specs.Sessions.{Session}
use Rattle.mdl_rows.specs.States.{State, half_lock, without_read_lock, without_transaction}

-- how far a statement comes: it ends with a reply, it begins to wait for a lock of this key in this mode, it still waits, or it ends
-- because memory ran out
pub data Pause : Type 0 where
  Ends : Reply → Session → Pause
  Begins_to_wait : KeyName → Mode → Session → Pause
  Waits_on : Session → Pause
  Faults : Session → Pause

-- how a statement ends whose wait was lost, for a user-level lock or for another one. A timeout for a user-level lock is an answer,
-- 0, and no error. The victim of a deadlock that waits for a user-level lock loses only the wait
abbrev pub ending_of_loss : Bool → Settled → Ending
ending_of_loss user settled.Timeout = if user then Answers (reply.Number false) else Misses LockWaitTimeout
ending_of_loss user settled.Killed = Misses Interrupted
ending_of_loss user _ = if user then Misses UserLockDeadlock else Falls

-- how a statement ends when a lock space refuses a call. This project's choice is that a lack of memory and a lack of places are
-- reported as such, and any other refusal as `Full`: a full book, or no number left for a ticket or a wait
abbrev pub ending_of_refusal : SpaceError → Ending
ending_of_refusal space.OutOfMemory = Starves
ending_of_refusal space.NoPlace = Misses NoPlace
ending_of_refusal _ = Misses Full

-- how a statement ends when a context refuses a call
abbrev pub ending_of_error : ContextError → Ending
ending_of_error (Space refusal) = ending_of_refusal refusal
ending_of_error _ = Misses Full

-- the tickets released at the end of a statement that began at this mark. In an open transaction: the tickets of the statement
-- duration, if it was done or a check failed, and all tickets beyond the mark, if it didn't get a lock or ran out of memory.
-- Otherwise, and for the victim of a deadlock, all tickets of the statement and the transaction. Explicit tickets stay
abbrev pub gone_at : Ending → Bool → Mark → List Kept → List Kept
gone_at (Answers reply) true mark = of_statement
gone_at (Misses number) true mark = beyond_mark mark
gone_at Starves true mark = beyond_mark mark
gone_at _ _ mark = of_transaction

-- the session's state after the end of a statement: the victim of a deadlock has lost its transaction
abbrev pub state_after : Ending → State → State
state_after Falls state = without_transaction state
state_after _ state = state

-- how far a statement has come after such an ending
abbrev pub pause_after : Ending → Session → Pause
pause_after (Answers reply) session = Ends reply session
pause_after (Misses number) session = Ends (reply.Error number) session
pause_after Falls session = Ends (reply.Error Deadlock) session
pause_after Starves session = Faults session

-- the tickets are released that the end of a statement releases
abbrev pub letting_go : Ending → Mark → Session → Program Pause
letting_go ending mark session =
    releasing_tickets (gone_at ending session.state.is_open mark session.context.kept) session.context
    >>= λ outcome. Give (pause_after ending (record { context = outcome.1; state = state_after ending session.state; left = None }))

-- the GLOBAL lock of a half-acquired global read lock, if there is one, is released first
abbrev pub without_half : Option ℕ → Ending → Mark → Session → Program Pause
without_half None ending mark session = letting_go ending mark session
without_half (Some global) ending mark session =
    releasing global session.context
    >>= λ outcome. letting_go ending mark (record session { context = outcome.1; state = without_read_lock session.state })

-- the program that ends a statement
abbrev pub closing : Ending → Mark → Session → Program Pause
closing ending mark session = without_half (half_lock (state_after ending session.state)) ending mark (record session { left = None })

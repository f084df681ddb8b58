-- How a session plays the rows of its statements: as programs of calls of a lock space.
use Rattle.std.specs.Prelude.{ℕ, Option, Some, None, Ok, Err, map, List}
use Rattle.mdl_key.specs.declared.mode.Mode.{Mode}
use Rattle.mdl_key.specs.declared.mode.Duration.TheVariants.{Transaction, Explicit}
use Rattle.mdl_key.specs.Keys.{KeyName}
use Rattle.mdl_defs.specs.declared.versioned_definition.VersionedDefinition.{VersionedDefinition}
use Rattle.mdl_calls.specs.Words.{Answer, Has_wait, Reads, Changed, Tables, Key_is, Read_kept, Change_definition, Tables_of, Key_of, Wait_of, Program, Give, Ask, Grow, ◌>>=◌, ◌>>◌}
use Rattle.mdl_calls.specs.Words as call
use Rattle.mdl_context.specs.declared.request.Acquire.{Acquire}
use Rattle.mdl_context.specs.declared.request.Acquire.TheVariants as acquire
use Rattle.mdl_context.specs.declared.request.Mark.{Mark}
use Rattle.mdl_context.specs.declared.request.Resume.{Resume}
use Rattle.mdl_context.specs.declared.request.Resume.TheVariants as resume
use Rattle.mdl_context.specs.declared.request.Tried.{Tried}
use Rattle.mdl_context.specs.declared.request.Tried.TheVariants as try_as
use Rattle.mdl_context.specs.Contexts.{ContextView, current_mark, last_ticket, waits_for_user_lock}
use Rattle.mdl_context.specs.Gains.{refusal_answered}
use Rattle.mdl_context.specs.Holdings.{kept_for}
use Rattle.mdl_context.specs.Releases.{releasing, releasing_tickets}
use Rattle.mdl_context.specs.Requests.{Outcome, acquiring, trying}
use Rattle.mdl_context.specs.Upgrades.{upgrading, downgrading}
use Rattle.mdl_context.specs.Waits.{giving_up_wait, resuming}
use Rattle.mdl_context.specs.Wishes.{Wish}
use Rattle.mdl_syntax.specs.declared.statement.Statement.{Statement}
use Rattle.mdl_rows.specs.declared.ending.Ending.TheVariants.{Answers, Starves}
use Rattle.mdl_rows.specs.declared.reply.Reply.{Reply}
use Rattle.mdl_rows.specs.declared.reply.Reply.TheVariants as reply
use Rattle.mdl_rows.specs.Endings.{Pause, Begins_to_wait, Waits_on, Faults, closing, ending_of_error, ending_of_loss, ending_of_refusal}
use Rattle.mdl_rows.specs.Rows.{Row}
use Rattle.mdl_rows.specs.Rows as row
use Rattle.mdl_rows.specs.Sessions.{Left, Session}
use Rattle.mdl_rows.specs.Statements.{row_of}

-- a session with this context
abbrev pub with_context : Session → ContextView → Session
with_context session context = record session { context = context }

-- a session with a waiting statement, of which this is left
abbrev pub with_left : Session → Left → Session
with_left session left = record session { left = Some left }

-- the rest after a wait that can't be reported was given up: a ticket that it had gained or upgraded is released, and the statement
-- ends because memory ran out. An upgraded ticket would be released with the statement in any case
abbrev pub untold : Mark → Session → Outcome Resume → Program Pause
untold mark session (Ok (resume.Acquired id), context) =
    releasing id context >>= (λ outcome. closing Starves mark (with_context session outcome.1))
untold mark session (Ok resume.Waiting, context) = closing Starves mark (with_context session context)
untold mark session (Ok (resume.Lost how), context) = closing Starves mark (with_context session context)
untold mark session (Err error, context) = closing Starves mark (with_context session context)

-- a wait has begun: its key is reported, which takes memory. If memory runs out, the wait is given up
abbrev pub beginning_to_wait : Wish → Left → Session → Program Pause
beginning_to_wait wish left session =
    Grow
    (giving_up_wait session.context >>= untold left.mark session)
    (Give (Begins_to_wait wish.key wish.mode (with_left session left)))

-- the rest after a request for a lock: it is held and the row goes on, the statement waits for it, or the statement ends
abbrev pub acquired : Wish → (ℕ → Row Reply) → Mark → Session → (ℕ → Session → Program Pause) → Outcome Acquire → Program Pause
acquired wish rest mark session more (Ok (acquire.Acquired id), context) = more id (with_context session context)
acquired wish rest mark session more (Ok (acquire.MustWait number), context) =
    beginning_to_wait wish (record { rest = rest; mark = mark }) (with_context session context)
acquired wish rest mark session more (Err error, context) = closing (ending_of_error error) mark (with_context session context)

-- the rest after a request for a lock without waiting: it is held, or it can't be granted at once, and the row goes on, or the
-- statement ends
abbrev pub tried : Mark → Session → (Option ℕ → Session → Program Pause) → Outcome Tried → Program Pause
tried mark session more (Ok (try_as.Acquired id), context) = more (Some id) (with_context session context)
tried mark session more (Ok try_as.WouldWait, context) = more None (with_context session context)
tried mark session more (Err error, context) = closing (ending_of_error error) mark (with_context session context)

-- the request that an upgrade waits with: a lock of this key in the stronger mode
abbrev pub upgrade_wish : KeyName → Mode → Wish
upgrade_wish key mode = record { key = key; mode = mode; duration = Transaction }

-- the rest once the space has answered a read of a definition
abbrev pub read_answered : Mark → Session → (VersionedDefinition → Program Pause) → Answer → Program Pause
read_answered mark session more (Reads version definition) = more (record { version = version; definition = definition })
read_answered mark session more answer = closing (ending_of_refusal (refusal_answered answer)) mark session

-- the rest once the space has answered a change of a definition
abbrev pub change_answered : Mark → Session → Program Pause → Answer → Program Pause
change_answered mark session more (Changed version) = more
change_answered mark session more answer = closing (ending_of_refusal (refusal_answered answer)) mark session

-- the rest once the space has answered which tables a schema has
abbrev pub tables_answered : Mark → Session → (List ℕ → Program Pause) → Answer → Program Pause
tables_answered mark session more (Tables places) = more places
tables_answered mark session more answer = closing (ending_of_refusal (refusal_answered answer)) mark session

-- the rest once the space has answered the key of a place
abbrev pub key_answered : Mark → Session → (KeyName → Program Pause) → Answer → Program Pause
key_answered mark session more (Key_is key) = more key
key_answered mark session more answer = closing (ending_of_refusal (refusal_answered answer)) mark session

-- the rest once the space has answered the number of a session's wait: if there is one, it is killed
abbrev pub wait_told : ℕ → Answer → Program (Unit {0})
wait_told target (Has_wait (Some number)) = Ask (call.Kill target number) (λ _. Give tt)
wait_told target _ = Give tt

-- the program that kills a session's wait, if it has one
abbrev pub killing : ℕ → Program (Unit {0})
killing target = Ask (Wait_of target) (wait_told target)

-- a session with all its tickets made explicit
abbrev pub all_kept : Session → Session
all_kept session = with_context session (record session.context { kept = map (kept_for Explicit) session.context.kept })

-- the program that plays a statement's row. `mark` is the session's mark when the statement began
abbrev pub play : Row Reply → Mark → Session → Program Pause
play (row.Give reply) mark session = closing (Answers reply) mark session
play (row.Fail number) mark session = closing (Answers (reply.Error number)) mark session
play (row.Room rest) mark session = Grow (closing Starves mark session) (play rest mark session)
play (row.Look rest) mark session = play (rest session.state) mark session
play (row.Set change rest) mark session = play rest mark (record session { state = change session.state })
play (row.Here rest) mark session = play (rest (current_mark session.context.kept)) mark session
play (row.Acquire wish rest) mark session =
    acquiring wish session.context >>= acquired wish rest mark session (λ id after. play (rest id) mark after)
play (row.Try_acquire wish rest) mark session =
    trying wish session.context >>= tried mark session (λ got after. play (rest got) mark after)
play (row.Last key rest) mark session = play (rest (last_ticket key session.context)) mark session
play (row.Upgrade id key mode rest) mark session =
    upgrading id mode session.context >>= acquired (upgrade_wish key mode) rest mark session (λ id after. play (rest id) mark after)
play (row.Downgrade id mode rest) mark session =
    downgrading id mode session.context >>= (λ outcome. play rest mark (with_context session outcome.1))
play (row.Give_up which rest) mark session =
    releasing_tickets (which session.context.kept) session.context >>= (λ outcome. play rest mark (with_context session outcome.1))
play (row.Release id rest) mark session = releasing id session.context >>= (λ outcome. play rest mark (with_context session outcome.1))
play (row.Keep rest) mark session = play rest mark (all_kept session)
play (row.Read id rest) mark session =
    Ask (Read_kept session.context.who id) (read_answered mark session (λ standing. play (rest standing) mark session))
play (row.Redefine id change rest) mark session =
    Ask (Change_definition session.context.who id change) (change_answered mark session (play rest mark session))
play (row.Tables_of schema rest) mark session =
    Ask (Tables_of session.context.who schema) (tables_answered mark session (λ places. play (rest places) mark session))
play (row.Key_of place rest) mark session =
    Ask (Key_of session.context.who place) (key_answered mark session (λ key. play (rest key) mark session))
play (row.Kill target rest) mark session = killing target >> play rest mark session

-- the program that starts a statement
abbrev pub starting : Statement → Session → Program Pause
starting statement session = play (row_of statement) (current_mark session.context.kept) session

-- the rest after a look at a statement's wait: it isn't settled, or the lock is held and the row goes on, or the wait is lost or fails
-- and the statement ends
abbrev pub resumed : Left → Session → Outcome Resume → Program Pause
resumed left session (Ok resume.Waiting, context) = Give (Waits_on (with_left (with_context session context) left))
resumed left session (Ok (resume.Acquired id), context) = play (left.rest id) left.mark (with_context session context)
resumed left session (Ok (resume.Lost how), context) =
    closing (ending_of_loss (waits_for_user_lock session.context) how) left.mark (with_context session context)
resumed left session (Err error, context) = closing (ending_of_error error) left.mark (with_context session context)

-- a statement continues with what is left of it
abbrev pub going_on_with : Option Left → Session → Program Pause
going_on_with None session = Give (Faults session)
going_on_with (Some left) session = resuming session.context >>= resumed left session

-- the program that continues a waiting statement
abbrev pub going_on : Session → Program Pause
going_on session = going_on_with session.left (record session { left = None })

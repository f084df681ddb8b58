-- How a session plays statements that it doesn't keep: when a statement begins to wait, what is left of it is copied.
use Rattle.std.specs.Prelude.{Option, Some, None}
use Rattle.mdl_key.specs.declared.mode.Mode.{Mode}
use Rattle.mdl_key.specs.Keys.{KeyName}
use Rattle.mdl_calls.specs.Words.{Program, Give, Grow, ◌>>=◌}
use Rattle.mdl_context.specs.declared.request.Mark.{Mark}
use Rattle.mdl_context.specs.Waits.{giving_up_wait}
use Rattle.mdl_syntax.specs.declared.statement.Statement.{Statement}
use Rattle.mdl_rows.specs.declared.reply.Reply.{Reply}
use Rattle.mdl_rows.specs.Endings.{Pause, Ends, Begins_to_wait, Waits_on, Faults}
use Rattle.mdl_rows.specs.Playing.{going_on, play, starting, untold}
use Rattle.mdl_rows.specs.Rows.{Row}
use Rattle.mdl_rows.specs.Sessions.{Left, Session}

-- a statement has begun to wait: what is left of it is copied, which takes memory. If memory runs out, the wait is given up, and
-- the statement ends
abbrev pub keeping_left : Option Left → KeyName → Mode → Session → Program Pause
keeping_left None key mode session = Give (Begins_to_wait key mode session)
keeping_left (Some left) key mode session =
    Grow
    (giving_up_wait session.context >>= untold left.mark (record session { left = None }))
    (Give (Begins_to_wait key mode session))

-- the rest once a statement has come this far: what is left of it is copied if it begins to wait, and nothing is done otherwise
abbrev pub keeping : Pause → Program Pause
keeping (Ends reply session) = Give (Ends reply session)
keeping (Begins_to_wait key mode session) = keeping_left session.left key mode session
keeping (Waits_on session) = Give (Waits_on session)
keeping (Faults session) = Give (Faults session)

-- the program that plays a statement's row. `mark` is the session's mark when the statement began
abbrev pub play_kept : Row Reply → Mark → Session → Program Pause
play_kept row mark session = play row mark session >>= keeping

-- the program that starts a statement
abbrev pub starting_kept : Statement → Session → Program Pause
starting_kept statement session = starting statement session >>= keeping

-- the program that continues a waiting statement
abbrev pub going_on_kept : Session → Program Pause
going_on_kept session = going_on session >>= keeping

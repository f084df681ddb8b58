-- Rows in a session whose state is known. A row looks at the state of its session, which nobody else changes. So it doesn't matter when it
-- looks: two rows are played alike if they are the same once what they look at is filled in.
use Rattle.std.specs.Prelude.{◌≡◌}
use Rattle.std.specs.Option.{option_map}
use Rattle.mdl_calls.specs.Words.{Program, Give, ◌>>=◌}
use Rattle.mdl_rows.specs.Endings.{Pause, Ends, Begins_to_wait, Waits_on, Faults}
use Rattle.mdl_rows.specs.Rows.{Row}
use Rattle.mdl_rows.specs.Rows as row
use Rattle.mdl_rows.specs.Sessions.{Left, Session}
use Rattle.mdl_rows.specs.States.{State}

-- a row in a session of this state: what it looks at is filled in, also after its own changes of the state
abbrev pub seen : {A : Type 0} → State → Row A → Row A
seen state (row.Give x) = row.Give x
seen state (row.Fail number) = row.Fail number
seen state (row.Room rest) = row.Room (seen state rest)
seen state (row.Look rest) = seen state (rest state)
seen state (row.Set change rest) = row.Set change (seen (change state) rest)
seen state (row.Here rest) = row.Here (λ mark. seen state (rest mark))
seen state (row.Acquire wish rest) = row.Acquire wish (λ id. seen state (rest id))
seen state (row.Try_acquire wish rest) = row.Try_acquire wish (λ got. seen state (rest got))
seen state (row.Last key rest) = row.Last key (λ held. seen state (rest held))
seen state (row.Upgrade id key mode rest) = row.Upgrade id key mode (λ new. seen state (rest new))
seen state (row.Downgrade id mode rest) = row.Downgrade id mode (seen state rest)
seen state (row.Give_up which rest) = row.Give_up which (seen state rest)
seen state (row.Release id rest) = row.Release id (seen state rest)
seen state (row.Keep rest) = row.Keep (seen state rest)
seen state (row.Read id rest) = row.Read id (λ standing. seen state (rest standing))
seen state (row.Redefine id change rest) = row.Redefine id change (seen state rest)
seen state (row.Tables_of schema rest) = row.Tables_of schema (λ places. seen state (rest places))
seen state (row.Key_of place rest) = row.Key_of place (λ key. seen state (rest key))
seen state (row.Kill target rest) = row.Kill target (seen state rest)

-- what is left of a statement, in a session of this state
abbrev pub left_seen : State → Left → Left
left_seen state left = record left { rest = λ id. seen state (left.rest id) }

-- a session, with what is left of its statement
abbrev pub session_seen : Session → Session
session_seen session = record session { left = option_map (left_seen session.state) session.left }

-- how far a statement has come
abbrev pub pause_seen : Pause → Pause
pause_seen (Ends reply session) = Ends reply (session_seen session)
pause_seen (Begins_to_wait key mode session) = Begins_to_wait key mode (session_seen session)
pause_seen (Waits_on session) = Waits_on (session_seen session)
pause_seen (Faults session) = Faults (session_seen session)

-- the program that plays a statement, up to its end or to a wait
abbrev pub program_seen : Program Pause → Program Pause
program_seen program = program >>= (λ pause. Give (pause_seen pause))

-- the programs make the same calls, whatever is answered, and come as far. If a statement waits then, what is left is the same once
-- what it looks at is filled in
abbrev pub AreAlike : Program Pause → Program Pause → Type 0
AreAlike first second = program_seen first ≡ program_seen second

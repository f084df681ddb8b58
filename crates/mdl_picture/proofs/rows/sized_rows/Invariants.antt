-- The rows of so many of the sessions.
use Rattle.std.proofs.Common.{◌≡◌, take}
use Rattle.mdl_picture.specs.Rows.{sized_rows}
use Rattle.mdl_picture.proofs.rows.sized_rows.Given as goal

abbrev pub invariant-loop-session : goal.invariant-loop-session
invariant-loop-session l = l.rows.items ≡ sized_rows l.placed (take l.session-index l.sessions)

-- A session has a row if it had one, or gets one.
use Rattle.mdl_picture.proofs.RowLaws.{rows_are_sessions}
use Rattle.mdl_picture.proofs.laws.rows_are_the_sessions.Goals as goal

pub returns : goal.returns
returns c = rows_are_sessions

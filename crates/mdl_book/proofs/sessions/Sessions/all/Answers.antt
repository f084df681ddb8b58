-- Every bit is set.
use Rattle.mdl_book.proofs.SessionLemmas.{contains-ones}
use Rattle.mdl_book.proofs.sessions.Sessions.all.Goals as goal

pub returns : goal.returns
returns c = contains-ones

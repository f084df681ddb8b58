-- The bit of the session is set, and no other changes.
use Rattle.std.proofs.Common.{arith}
use Rattle.mdl_book.proofs.SessionLemmas.{bit_put, put_is}
use Rattle.mdl_book.proofs.sessions.Sessions.insert.Goals as goal

pub returns : goal.returns
returns c =
    rw (← c.self.view_is, c.from.ensures)
    (put_is c.self.inside.words _ c.args.session c.requires.positive c.requires.within (bit_put c.self.inside.words c.args.session c.requires.positive (omega arith)))

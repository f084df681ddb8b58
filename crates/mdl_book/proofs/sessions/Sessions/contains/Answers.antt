-- A number that is no session is in no set, and of the others the bit tells.
use Rattle.std.proofs.Common.{◌≡◌, false, arith}
use Rattle.std.proofs.lemmas.Bool.Decides.{nat_tests}
use Rattle.mdl_book.specs.SessionSets.{is_session}
use Rattle.mdl_book.proofs.SessionLemmas.{none_outside, bit_tells}
use Rattle.mdl_book.proofs.sessions.Sessions.contains.Goals as goal

pub returns-then-session-eq0 : goal.returns-then-session-eq0
returns-then-session-eq0 c =
    let outside : is_session c.args.session ≡ false = grind (arith, nat_tests, c.then-session-eq0.either) in
    rw (← c.self.view_is) (none_outside c.self.inside.words c.args.session outside)

pub returns : goal.returns
returns c = rw (← c.self.view_is, c.from.ensures) (bit_tells c.self.inside.words c.args.session (omega arith) (omega arith))

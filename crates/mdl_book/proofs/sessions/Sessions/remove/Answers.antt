-- The bit of the session is cleared, and no other changes. A number that is no session is in no set.
use Rattle.std.proofs.Common.{◌≡◌, false, arith}
use Rattle.std.proofs.lemmas.Bool.Decides.{nat_tests}
use Rattle.mdl_book.specs.SessionSets.{is_session}
use Rattle.mdl_book.proofs.SessionLemmas.{bit_taken, taken_is, none_taken}
use Rattle.mdl_book.proofs.sessions.Sessions.remove.Goals as goal
use Rattle.mdl_book.proofs.sessions.Sessions.remove.Goals.{then-session-eq0-via-then-session-eq0, then-session-eq0-via-else-session-eq0+then-session-gt-MOST}

pub returns-then-session-eq0 : goal.returns-then-session-eq0
returns-then-session-eq0 c =
    let outside : is_session c.args.session ≡ false = grind (arith, nat_tests, c.then-session-eq0.either) in
    elim c.then-session-eq0.branch [
      | then-session-eq0-via-then-session-eq0 w ↦ rw (w.self-inside-is, ← c.self.view_is) (none_taken c.self.inside.words c.args.session outside)
      | then-session-eq0-via-else-session-eq0+then-session-gt-MOST w ↦ rw (w.self-inside-is, ← c.self.view_is) (none_taken c.self.inside.words c.args.session outside)
    ]

pub returns : goal.returns
returns c =
    rw (← c.self.view_is, c.from.ensures)
    (taken_is c.self.inside.words _ c.args.session (bit_taken c.self.inside.words c.args.session (omega arith) (omega arith)))

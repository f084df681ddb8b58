-- Nobody has ended, so no ticket has gone.
use Rattle.std.proofs.Common.{Bool, IfOk, subst, sym}
use Rattle.mdl_view.specs.declared.ticket.Ticket.{Ticket}
use Rattle.mdl_view.specs.Passes.{AreKnown}
use Rattle.mdl_view.specs.SessionSets.{AreAgainst, has}
use Rattle.mdl_view.proofs.AgainstLemmas.{none_gone}
use Rattle.mdl_view.proofs.against.blocking_sessions.Goals as goal

pub sessions_against-requires : goal.sessions_against-requires
sessions_against-requires c =
    let P : (Ticket → Bool) → Type 0 = λ gone. AreKnown c.args.lock.now gone c.args.known.now.items in
    subst P (sym (none_gone (has c.new-nobody.result) c.new-nobody.ensures.none)) c.requires

pub returns-clause-known : goal.returns-clause-known
returns-clause-known c =
    let P : (Ticket → Bool) → Type 0 = λ gone. AreKnown c.args.lock.now gone c.sessions_against.new.known.items in
    subst P (none_gone (has c.new-nobody.result) c.new-nobody.ensures.none) c.sessions_against.ensures.known

pub returns-clause-sessions : goal.returns-clause-sessions
returns-clause-sessions c =
    let P : (Ticket → Bool) → Type 0 = λ gone. IfOk c.sessions_against.result (AreAgainst c.args.lock.now gone c.args.mode) in
    subst P (none_gone (has c.new-nobody.result) c.new-nobody.ensures.none) c.sessions_against.ensures.sessions

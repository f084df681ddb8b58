-- What is found is kept.
use Rattle.std.proofs.lemmas.List.Elements.{All-push, All-same}
use Rattle.mdl_view.specs.declared.against.ModeSessions.{ModeSessions}
use Rattle.mdl_view.specs.GoingOn.{is_gone}
use Rattle.mdl_view.specs.SessionSets.{AreAgainst, has, taken_by}
use Rattle.mdl_view.proofs.against.sessions_against.Goals as goal

pub returns-clause-known : goal.returns-clause-known
returns-clause-known c =
    let Is = λ (one : ModeSessions). AreAgainst c.args.lock.now (is_gone (taken_by c.args.act) (has c.args.ended.now)) one.mode one.sessions in
    All-same Is c.push.new.self.items _ c.in_ok-push.ensures.items
    (All-push Is c.args.known.now.items (record { mode = c.args.mode; sessions = c.found_against-sessions.result }) c.requires c.found_against-sessions.ensures)

-- Two other sessions are noted exactly if several block the request.
use Rattle.std.proofs.Common.{◌∙◌, ◌&&◌, not, ap, sym, leb, length}
use Rattle.mdl_view.specs.Ways.{blockers_of}
use Rattle.mdl_view.proofs.JointLemmas.{several_by}
use Rattle.mdl_view.proofs.joint.needs_several.Goals as goal

pub returns-then-not-contains-clause-value : goal.returns-then-not-contains-clause-value
returns-then-not-contains-clause-value c =
    c.has_others.ensures ∙ several_by c.args.lock.now c.args.ask c.in_ok-sessions.sessions c.in_ok-sessions.ensures.sessions
    ∙ ap (λ b. not b && leb 2 (length (blockers_of c.args.lock.now c.args.ask))) (sym (sym c.contains.ensures ∙ c.if-not-contains.true))

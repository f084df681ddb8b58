-- What is left of those that block it decides.
use Rattle.std.proofs.Common.{◌∙◌, not, ap, sym}
use Rattle.mdl_view.specs.Blockings.{is_blocked}
use Rattle.mdl_view.specs.GoingOn.{is_free, is_gone}
use Rattle.mdl_view.specs.SessionSets.{has, taken_by}
use Rattle.mdl_view.proofs.AgainstLemmas.{free_by, goes_by}
use Rattle.mdl_view.proofs.against.goes_on.Goals as goal

pub returns-clause-value : goal.returns-clause-value
returns-clause-value c =
    let gone = is_gone (taken_by c.args.act) (has c.args.ended.now) in
    goes_by (gone c.args.ask) (is_blocked c.args.lock.now c.args.ask) (is_free c.args.lock.now gone c.args.ask) (not c.has_other.result)
    (sym c.is_gone.ensures ∙ c.if-is_gone.false) (sym c.in_ok-is_blocked.ensures.value ∙ c.if-not-branch.false)
    (ap not (c.has_other.ensures ∙ c.in_ok-sessions.ensures.sessions.apart c.args.ask.session c.args.ask.session) ∙ free_by c.args.lock.now gone c.args.ask)

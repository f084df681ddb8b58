-- A session other than the request's own is noted exactly if some ticket blocks it.
use Rattle.std.proofs.Common.{◌∙◌}
use Rattle.mdl_view.proofs.AgainstLemmas.{blocked_by}
use Rattle.mdl_view.proofs.against.is_blocked.Goals as goal

pub returns-clause-value : goal.returns-clause-value
returns-clause-value c =
    c.has_other.ensures ∙ c.in_ok-sessions.ensures.sessions.apart c.args.ask.session c.args.ask.session ∙ blocked_by c.args.lock.now c.args.ask

-- The session that the act is about is taken out.
use Rattle.std.proofs.Common.{◌∙◌, ◌&&◌, not, ap}
use Rattle.std.specs.Prelude.{◌==◌}
use Rattle.mdl_view.specs.SessionSets.{has}
use Rattle.mdl_view.proofs.going_on.helped_by.Goals as goal

pub returns-clause-ended : goal.returns-clause-ended
returns-clause-ended c = (
  has c.in_ok-ended.ended,
  c.in_ok-ended.ensures.ended,
  λ session. c.in_ok-remove.ensures.removed session ∙ ap (λ t. has c.in_ok-ended.ended session && not (session == t)) c.target.ensures,
)

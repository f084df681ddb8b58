-- By its lemmas.
use Rattle.mdl_session_laws.proofs.ReadLaws.{session-reads_fit, session-seen_below}
use Rattle.mdl_session_laws.proofs.reads.what_is_read_may_stand.Goals as goal

pub returns : goal.returns
returns c a who place key standing speaks knows has = (
  session-reads_fit a who place key standing speaks knows has,
  λ version seen. session-seen_below a who place version standing speaks seen has,
)

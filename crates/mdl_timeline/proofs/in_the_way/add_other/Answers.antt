-- It is put into the set if it can be in it.
use Rattle.mdl_timeline.proofs.WayLemmas.{gains-other}
use Rattle.mdl_timeline.proofs.in_the_way.add_other.Goals as goal

pub returns-then-is_session : goal.returns-then-is_session
returns-then-is_session c = rw c.insert.ensures (gains-other c.args.who c.args.session c.args.those.now c.if-session-who.true)

-- The session is served, since it has nothing and nothing is cached.
use Rattle.mdl_stmt.proofs.AttendanceLemmas.{attends-empty}
use Rattle.mdl_growth_trials.proofs.PairLemmas.{fresh}
use Rattle.mdl_growth_trials.proofs.session_pair.Desk.new.Goals as goal

pub invariant_of-result : goal.invariant_of-result
invariant_of-result g c = attends-empty g.S.LockSpace c.args.session _ _ c.requires.cache
    (fresh g.S.LockSpace c.args.session c.args.who _ c.requires.context c.requires.speaks c.requires.nothing)

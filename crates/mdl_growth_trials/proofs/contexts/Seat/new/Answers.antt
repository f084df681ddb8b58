-- The session is served, since it has nothing.
use Rattle.mdl_growth_trials.proofs.PairLemmas.{fresh}
use Rattle.mdl_growth_trials.proofs.contexts.Seat.new.Goals as goal

pub invariant_of-result : goal.invariant_of-result
invariant_of-result g c = fresh g.S.LockSpace c.args.session c.args.who _ c.new.ensures c.requires.speaks c.requires.nothing

-- The call leaves the other sessions as they were.
use Rattle.std.proofs.Common.{refl}
use Rattle.mdl_context.proofs.OthersLemmas.{leaves-call}
use Rattle.mdl_run_trials.proofs.used_up.room.unpin.Goals as goal

pub returns-clause-speaks : goal.returns-clause-speaks
returns-clause-speaks g c = g.met.S.LockSpace.laws.keeps _ _ _ _ _ c.requires c.unpin.ensures

pub returns-clause-others : goal.returns-clause-others
returns-clause-others g c =
    let laws = g.met.S.LockSpace.laws in
    leaves-call g.S.LockSpace laws _ _ _ _ _ refl c.unpin.ensures

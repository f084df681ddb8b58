-- No session is the caller, so each is as it was.
use Rattle.std.proofs.Common.{refl}
use Rattle.mdl_context.proofs.OthersLemmas.{both-leave}
use Rattle.mdl_run_trials.proofs.used_up.RoomLemmas.{leaves-nobody}
use Rattle.mdl_run_trials.proofs.used_up.room.kill.Goals as goal

pub returns-in-Some-clause-speaks : goal.returns-in-Some-clause-speaks
returns-in-Some-clause-speaks g c =
    let laws = g.met.S.LockSpace.laws in
    laws.keeps _ _ _ _ _ (laws.keeps _ _ _ _ _ c.requires c.wait_of.ensures) c.kill.ensures

pub returns-in-Some-clause-others : goal.returns-in-Some-clause-others
returns-in-Some-clause-others g c =
    let laws = g.met.S.LockSpace.laws in
    both-leave g.S.LockSpace _ _ _ _ (leaves-nobody g.S.LockSpace laws _ _ _ _ _ refl c.wait_of.ensures) (leaves-nobody g.S.LockSpace laws _ _ _ _ _ refl c.kill.ensures)

pub returns-in-None-clause-speaks : goal.returns-in-None-clause-speaks
returns-in-None-clause-speaks g c = g.met.S.LockSpace.laws.keeps _ _ _ _ _ c.requires c.wait_of.ensures

pub returns-in-None-clause-others : goal.returns-in-None-clause-others
returns-in-None-clause-others g c =
    let laws = g.met.S.LockSpace.laws in
    leaves-nobody g.S.LockSpace laws _ _ _ _ _ refl c.wait_of.ensures

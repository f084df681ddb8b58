-- Each call leaves the space speaking for the same sessions.
use Rattle.mdl_space_trials.proofs.acts.call.Goals as goal

pub returns-in-Unpin : goal.returns-in-Unpin
returns-in-Unpin g c = λ w speaks. g.met.S.LockSpace.laws.keeps _ _ _ _ w speaks c.unpin.ensures

pub returns-in-TryNow : goal.returns-in-TryNow
returns-in-TryNow g c = λ w speaks. g.met.S.LockSpace.laws.keeps _ _ _ _ w speaks c.try_now.ensures

pub returns-in-BeginWait : goal.returns-in-BeginWait
returns-in-BeginWait g c = λ w speaks. g.met.S.LockSpace.laws.keeps _ _ _ _ w speaks c.begin_wait.ensures

pub returns-in-Search : goal.returns-in-Search
returns-in-Search g c = λ w speaks. g.met.S.LockSpace.laws.keeps _ _ _ _ w speaks c.search.ensures

pub returns-in-Poll : goal.returns-in-Poll
returns-in-Poll g c = λ w speaks. g.met.S.LockSpace.laws.keeps _ _ _ _ w speaks c.poll_wait.ensures

pub returns-in-TimeOut : goal.returns-in-TimeOut
returns-in-TimeOut g c = λ w speaks. g.met.S.LockSpace.laws.keeps _ _ _ _ w speaks c.settle_timeout.ensures

pub returns-in-EndWait : goal.returns-in-EndWait
returns-in-EndWait g c = λ w speaks. g.met.S.LockSpace.laws.keeps _ _ _ _ w speaks c.end_wait.ensures

pub returns-in-WaitOf : goal.returns-in-WaitOf
returns-in-WaitOf g c = λ w speaks. g.met.S.LockSpace.laws.keeps _ _ _ _ w speaks c.wait_of.ensures

pub returns-in-Kill : goal.returns-in-Kill
returns-in-Kill g c = λ w speaks. g.met.S.LockSpace.laws.keeps _ _ _ _ w speaks c.kill.ensures

pub returns-in-Release : goal.returns-in-Release
returns-in-Release g c = λ w speaks. g.met.S.LockSpace.laws.keeps _ _ _ _ w speaks c.release.ensures

pub returns-in-Clone : goal.returns-in-Clone
returns-in-Clone g c = λ w speaks. g.met.S.LockSpace.laws.keeps _ _ _ _ w speaks c.clone_ticket.ensures

pub returns-in-Upgrade : goal.returns-in-Upgrade
returns-in-Upgrade g c = λ w speaks. g.met.S.LockSpace.laws.keeps _ _ _ _ w speaks c.upgrade_now.ensures

pub returns-in-Merge : goal.returns-in-Merge
returns-in-Merge g c = λ w speaks. g.met.S.LockSpace.laws.keeps _ _ _ _ w speaks c.merge.ensures

pub returns-in-Downgrade : goal.returns-in-Downgrade
returns-in-Downgrade g c = λ w speaks. g.met.S.LockSpace.laws.keeps _ _ _ _ w speaks c.downgrade.ensures

pub returns-in-Read : goal.returns-in-Read
returns-in-Read g c = λ w speaks. g.met.S.LockSpace.laws.keeps _ _ _ _ w speaks c.read_definition.ensures

-- The COMMIT lock is had, and the transaction ends under it.
use Rattle.mdl_stmt.proofs.RunLemmas.{committed-under, commit-waits, commit-ends}
use Rattle.mdl_stmt.proofs.player.Player.commit_writes.Goals as goal

pub returns-in-Had-clause-run : goal.returns-in-Had-clause-run
returns-in-Had-clause-run g c =
    committed-under g.S.LockSpace c.commit-key.result c.args.self.now c.get.new.self c.end_under.new.self c.in-Had.lock c.args.space.now c.get.new.space c.end_under.new.space c.commit-key.ensures (rw c.in-Had.is at c.get.ensures.run) c.end_under.ensures.run

pub returns-in-Waits-clause-run : goal.returns-in-Waits-clause-run
returns-in-Waits-clause-run g c =
    commit-waits g.S.LockSpace c.commit-key.result c.in-Waits.key c.args.self.now c.get.new.self c.args.space.now c.get.new.space c.commit-key.ensures (rw c.in-Waits.is at c.get.ensures.run)

pub returns-clause-run : goal.returns-clause-run
returns-clause-run g c =
    commit-ends g.S.LockSpace c.commit-key.result c.in-Ends.ending c.args.self.now c.get.new.self c.args.space.now c.get.new.space c.commit-key.ensures (rw c.in-Ends.is at c.get.ensures.run)

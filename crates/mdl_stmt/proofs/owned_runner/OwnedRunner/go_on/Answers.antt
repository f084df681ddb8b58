-- A run with the cache is one without it, and it leaves no pin.
use Rattle.std.proofs.Common.{◌∙◌, sym}
use Rattle.mdl_stmt.proofs.PinLemmas.{goes-on-kept-just}
use Rattle.mdl_stmt.proofs.RunnerLemmas.{goes-on-owned, owned_of}
use Rattle.mdl_stmt.proofs.owned_runner.OwnedRunner.go_on.Goals as goal

pub returns-clause-run : goal.returns-clause-run
returns-clause-run g c =
    goes-on-owned g.S.LockSpace c.args.self.now c.self.inside.player c.go_on_kept-turn.new.self c.self.inside.work c.go_on_kept-turn.result.work c.replace.new.dest c.unwrap-work.result
    c.go_on_kept-turn.result.progress _ _ c.self.view_is (sym c.take.ensures.value ∙ c.unwrap-work.ensures) c.replace.ensures.after c.go_on_kept-turn.ensures.run

pub returns-clause-just : goal.returns-clause-just
returns-clause-just g c =
    goes-on-kept-just g.S.LockSpace g.met.S.LockSpace.laws c.args.space.now c.go_on_kept-turn.new.space c.args.self.now
    (owned_of c.go_on_kept-turn.new.self c.replace.new.dest) c.go_on_kept-turn.result.progress c.requires.attends.attends c.requires.waits (returns-clause-run g c)

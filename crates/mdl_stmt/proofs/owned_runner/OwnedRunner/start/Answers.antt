-- A run with the cache is one without it, and it leaves no pin.
use Rattle.std.proofs.Common.{◌∙◌, ap, sym}
use Rattle.mdl_stmt.specs.KeptStages.{OwnedView}
use Rattle.mdl_stmt.proofs.PinLemmas.{starts-kept-just}
use Rattle.mdl_stmt.proofs.RunnerLemmas.{owned_of, starts-kept}
use Rattle.mdl_stmt.proofs.owned_runner.OwnedRunner.start.Goals as goal

pub returns-clause-run : goal.returns-clause-run
returns-clause-run g c =
    starts-kept g.S.LockSpace c.args.statement.now c.args.self.now c.self.inside.player c.start_kept-turn.new.self c.self.inside.work c.start_kept-turn.result.work c.replace.new.dest
    c.start_kept-turn.result.progress _ _ c.self.view_is (ap (λ (r : OwnedView). r.work) c.self.view_is ∙ c.requires.idle) c.replace.ensures.after c.start_kept-turn.ensures.run

pub returns-clause-just : goal.returns-clause-just
returns-clause-just g c =
    let none = ap (λ (r : OwnedView). r.work) c.self.view_is ∙ c.requires.idle in
    let idle = sym (ap (λ (r : OwnedView). r.context.wait) c.self.view_is) ∙ c.self.invariant none in
    starts-kept-just g.S.LockSpace g.met.S.LockSpace.laws c.args.space.now c.start_kept-turn.new.space c.args.statement.now c.args.self.now
    (owned_of c.start_kept-turn.new.self c.replace.new.dest) c.start_kept-turn.result.progress c.requires.attends.attends idle (returns-clause-run g c)

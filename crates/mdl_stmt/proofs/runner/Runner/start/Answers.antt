-- A run with the cache is one without it, and it leaves no pin.
use Rattle.std.proofs.Common.{◌∙◌, Ok, Some, ap, sym}
use Rattle.mdl_context.specs.Contexts.{current_mark}
use Rattle.mdl_stmt.specs.declared.runner.Runner.TheInside.{Inside}
use Rattle.mdl_stmt.specs.Players.{RunnerView}
use Rattle.mdl_stmt.specs.declared.out_of_memory.OutOfMemory.{OutOfMemory}
use Rattle.mdl_stmt.specs.declared.progress.Progress.TheVariants.{Waiting}
use Rattle.mdl_stmt.specs.declared.runner.Work.{Work}
use Rattle.mdl_stmt.proofs.PinLemmas.{starts-just}
use Rattle.mdl_stmt.proofs.RunnerLemmas.{runner_of, starts-ended, starts-waiting}
use Rattle.mdl_stmt.proofs.runner.Runner.start.Goals as goal

pub returns-in-Ends-clause-run : goal.returns-in-Ends-clause-run
returns-in-Ends-clause-run g c =
    starts-ended g.S.LockSpace c.args.statement.now c.args.self.now c.self.inside.player c.perform.new.self c.close.new.self c.self.inside.work c.savepoint-mark.result c.in-Ends.ending c.close.result _ _ _
    c.self.view_is (ap (λ (r : RunnerView). r.work) c.self.view_is ∙ c.requires.idle)
    (c.savepoint-mark.ensures ∙ ap (λ (i : Inside g.row.S.Denot). current_mark i.player.context.kept) c.self-inside.view_is) (rw c.in-Ends.is at c.perform.ensures.run) c.close.ensures.run

pub returns-in-Waits-clause-run : goal.returns-in-Waits-clause-run
returns-in-Waits-clause-run g c =
    starts-waiting g.S.LockSpace c.args.statement.now c.args.self.now c.self.inside.player c.perform.new.self c.self.inside.work c.savepoint-mark.result c.in-Waits.key c.in-Waits.mode c.in-Waits.stage _ _
    c.self.view_is (ap (λ (r : RunnerView). r.work) c.self.view_is ∙ c.requires.idle)
    (c.savepoint-mark.ensures ∙ ap (λ (i : Inside g.row.S.Denot). current_mark i.player.context.kept) c.self-inside.view_is) (rw c.in-Waits.is at c.perform.ensures.run)

pub returns-in-Ends-clause-just : goal.returns-in-Ends-clause-just
returns-in-Ends-clause-just g c =
    let none = ap (λ (r : RunnerView). r.work) c.self.view_is ∙ c.requires.idle in
    let idle = sym (ap (λ (r : RunnerView). r.context.wait) c.self.view_is) ∙ c.self.invariant none in
    starts-just g.S.LockSpace g.met.S.LockSpace.laws c.args.space.now c.close.new.space c.args.statement.now c.args.self.now (runner_of c.close.new.self c.self.inside.work) c.close.result
    c.requires.attends.attends idle (returns-in-Ends-clause-run g c)

pub returns-in-Waits-clause-just : goal.returns-in-Waits-clause-just
returns-in-Waits-clause-just g c =
    let none = ap (λ (r : RunnerView). r.work) c.self.view_is ∙ c.requires.idle in
    let idle = sym (ap (λ (r : RunnerView). r.context.wait) c.self.view_is) ∙ c.self.invariant none in
    let work : Work = record { stage = c.in-Waits.stage; mark = c.savepoint-mark.result } in
    starts-just {E = OutOfMemory} g.S.LockSpace g.met.S.LockSpace.laws c.args.space.now c.perform.new.space c.args.statement.now c.args.self.now (runner_of c.perform.new.self (Some work))
    (Ok (Waiting c.in-Waits.key c.in-Waits.mode)) c.requires.attends.attends idle (returns-in-Waits-clause-run g c)

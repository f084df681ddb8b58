-- The passes that are left after one is taken are the manager's, too.
use Rattle.std.proofs.Common.{◌≡◌}
use Rattle.std.proofs.lemmas.List.Elements.{All-rest}
use Rattle.mdl_shared.specs.Passes.{manager_table, pass_table}
use Rattle.mdl_bench.proofs.through.start_all.Goals as goal

pub loop-pass-preserved : goal.loop-pass-preserved
loop-pass-preserved g c =
    All-rest (λ pass. pass_table pass ≡ manager_table c.args.manager.now) c.in-Some.pass _ _ c.in-Some.ensures.steps.0 c.loop-pass.invariant

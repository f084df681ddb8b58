-- The passes that are left are the manager's.
use Rattle.std.proofs.Common.{◌≡◌, All}
use Rattle.std.specs.Vec.Iter.{into_iter_items}
use Rattle.mdl_shared.specs.Passes.{manager_table, pass_table}
use Rattle.mdl_bench.proofs.through.start_all.Given as goal

abbrev pub invariant-loop-pass : goal.invariant-loop-pass
invariant-loop-pass g l = All (λ pass. pass_table pass ≡ manager_table l.manager) (into_iter_items l.pass-iterator)

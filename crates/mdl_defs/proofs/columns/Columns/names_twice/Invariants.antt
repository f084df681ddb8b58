-- Whether a column is named twice is seen among those that are left.
use Rattle.std.proofs.Common.{◌≡◌, drop}
use Rattle.mdl_defs.specs.Columns.{names_twice}
use Rattle.mdl_defs.proofs.columns.Columns.names_twice.Given as goal

abbrev pub invariant-loop-at : goal.invariant-loop-at
invariant-loop-at l = names_twice (drop l.at l.self) ≡ names_twice l.self

-- Those that were looked at are kept, but for the one.
use Rattle.std.proofs.Common.{◌≡◌, take}
use Rattle.mdl_defs.specs.Columns.{without_column}
use Rattle.mdl_defs.proofs.columns.Columns.without.Given as goal

abbrev pub invariant-loop-other : goal.invariant-loop-other
invariant-loop-other l = l.columns ≡ without_column l.column (take l.other-index l.self)

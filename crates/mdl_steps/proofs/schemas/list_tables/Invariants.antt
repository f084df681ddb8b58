-- The tables among the keys so far are listed.
use Rattle.std.proofs.Common.{◌≡◌, take}
use Rattle.mdl_steps.specs.Schemas.{tables_from}
use Rattle.mdl_steps.proofs.schemas.list_tables.Given as goal

abbrev pub invariant-loop-index : goal.invariant-loop-index
invariant-loop-index l = l.tables.items ≡ tables_from l.schema 1 (take l.index l.keys)

-- So many names were looked at.
use Rattle.std.proofs.Common.{◌≡◌, map, take}
use Rattle.mdl_client_table.specs.Objects.{value_under}
use Rattle.mdl_client_table.proofs.field.values_under.Given as goal

abbrev pub invariant-loop-name : goal.invariant-loop-name
invariant-loop-name l = l.fields.items ≡ map (value_under l.keys l.values) (take l.name-index l.names)

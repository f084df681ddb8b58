use Rattle.std.proofs.Common.{◌≡◌, take}
use Rattle.std.specs.Prelude.{map}
use Rattle.mdl_key.specs.Keys.{table_key}
use Rattle.mdl_syntax.proofs.forms.keys_of.Given as goal

abbrev pub invariant-loop-name : goal.invariant-loop-name
invariant-loop-name l = l.tables ≡ map (λ name. table_key name.schema.now name.table.now) (take l.name-index l.names)

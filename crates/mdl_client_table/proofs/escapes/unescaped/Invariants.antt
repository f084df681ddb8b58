-- The bytes so far, and those of the rest, are the name.
use Rattle.std.proofs.Common.{◌≡◌, ◌++◌, drop}
use Rattle.mdl_client_table.specs.Escapes.{unescaped, unescaped_from}
use Rattle.mdl_client_table.proofs.escapes.unescaped.Given as goal

abbrev pub invariant-loop-byte : goal.invariant-loop-byte
invariant-loop-byte l = l.name.items ++ unescaped_from l.is_escaped (drop l.byte-index l.field) ≡ unescaped l.field

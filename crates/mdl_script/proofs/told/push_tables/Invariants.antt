-- The tables so far are written.
use Rattle.std.proofs.Common.{◌≡◌, ◌++◌, take}
use Rattle.std.specs.String.{string_bytes}
use Rattle.mdl_script.specs.Texts.{tables_text}
use Rattle.mdl_script.proofs.told.push_tables.Given as goal

abbrev pub invariant-loop-table : goal.invariant-loop-table
invariant-loop-table l = string_bytes l.out ≡ string_bytes l.fn.out ++ tables_text (take l.table-index l.tables)

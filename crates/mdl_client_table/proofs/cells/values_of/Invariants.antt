-- So many cells were looked at.
use Rattle.std.proofs.Common.{◌≡◌, map, take}
use Rattle.mdl_client_table.specs.Cells.{cell_value}
use Rattle.mdl_client_table.proofs.cells.values_of.Given as goal

abbrev pub invariant-loop-cell : goal.invariant-loop-cell
invariant-loop-cell l = l.fields.items ≡ map (cell_value l.form) (take l.cell-index l.cells)

-- So many rows were put behind the names of the columns.
use Rattle.std.proofs.Common.{◌≡◌, ◌++◌, take}
use Rattle.std.specs.List.{flat_map}
use Rattle.mdl_view_text.specs.Rows.{wait_row, waits_head}
use Rattle.mdl_view_text.proofs.rows.waits_text.Given as goal

abbrev pub invariant-loop-blocking : goal.invariant-loop-blocking
invariant-loop-blocking l = l.out.items ≡ waits_head ++ flat_map (wait_row l.names) (take l.blocking-index l.blockings)

-- The keys so far have their names.
use Rattle.std.proofs.Common.{◌≡◌, take}
use Rattle.mdl_view_program.specs.RowAnswers.{names_of_rows}
use Rattle.mdl_view_program.proofs.rows.names_of_rows.Given as goal

abbrev pub invariant-loop-key : goal.invariant-loop-key
invariant-loop-key l = l.names ≡ names_of_rows l.fn.owners.items (take l.key-index l.keys)

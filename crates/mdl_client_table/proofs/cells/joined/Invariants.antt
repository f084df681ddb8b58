-- The parts that are left, added to the cells so far, give the cells.
use Rattle.std.proofs.Common.{◌≡◌, Bor, ℕ, List, map, drop}
use Rattle.std.specs.Prelude.{fold}
use Rattle.mdl_client_table.specs.Cells.{no_cells, with_part}
use Rattle.mdl_client_table.proofs.cells.joined.Given as goal

abbrev pub invariant-loop-part : goal.invariant-loop-part
invariant-loop-part l =
    fold (with_part l.form) l.all (map (λ (part : Bor (List ℕ)). part.now) (drop l.part-index l.parts))
    ≡ fold (with_part l.form) no_cells (map (λ (part : Bor (List ℕ)). part.now) l.parts)

-- The columns so far are written.
use Rattle.std.proofs.Common.{◌≡◌, ◌++◌, take, flat_map}
use Rattle.std.specs.Prelude.{codes}
use Rattle.std.specs.String.{string_bytes}
use Rattle.mdl_script.proofs.told.push_behind_commas.Given as goal

abbrev pub invariant-loop-column : goal.invariant-loop-column
invariant-loop-column l =
    string_bytes l.out ≡ string_bytes l.fn.out ++ flat_map (λ column. codes "," ++ column) (take l.column-index l.columns)

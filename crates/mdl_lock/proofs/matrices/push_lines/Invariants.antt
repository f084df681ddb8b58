-- The text has the lines of the modes so far.
use Rattle.std.proofs.Common.{◌≡◌, ◌++◌, take}
use Rattle.std.specs.Prelude.{filter, flat_map}
use Rattle.std.specs.String.{string_bytes}
use Rattle.mdl_key.specs.Modes.{all_modes, is_mode_of}
use Rattle.mdl_lock.specs.MatrixText.{line_of}
use Rattle.mdl_lock.proofs.matrices.push_lines.Given as goal

abbrev pub invariant-loop-ask : goal.invariant-loop-ask
invariant-loop-ask l = string_bytes l.text ≡ string_bytes l.fn.text ++ flat_map (line_of l.kind l.matrix) (filter (is_mode_of l.kind) (take l.ask-index all_modes))

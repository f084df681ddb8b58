-- The lines so far are written.
use Rattle.std.proofs.Common.{◌≡◌, ◌++◌, take, flat_map}
use Rattle.std.specs.String.{string_bytes}
use Rattle.mdl_script.specs.Texts.{end_line}
use Rattle.mdl_script.proofs.told.push_ends.Given as goal

abbrev pub invariant-loop-who : goal.invariant-loop-who
invariant-loop-who l = string_bytes l.out ≡ string_bytes l.fn.out ++ flat_map end_line (take l.who-index l.waiting)

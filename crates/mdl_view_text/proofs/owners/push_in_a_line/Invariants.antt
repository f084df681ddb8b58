-- So much was put there.
use Rattle.std.proofs.Common.{◌≡◌, ◌++◌, take}
use Rattle.std.specs.List.{flat_map}
use Rattle.mdl_view_text.specs.Owners.{line_byte}
use Rattle.mdl_view_text.proofs.owners.push_in_a_line.Given as goal

abbrev pub invariant-loop-byte : goal.invariant-loop-byte
invariant-loop-byte l = l.out.items ≡ l.fn.out.items ++ flat_map line_byte (take l.byte-index l.text)

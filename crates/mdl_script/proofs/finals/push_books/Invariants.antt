-- The books so far are written.
use Rattle.std.proofs.Common.{◌≡◌, ◌++◌, take}
use Rattle.std.specs.String.{string_bytes}
use Rattle.mdl_script.specs.Finals.{finals_text}
use Rattle.mdl_script.proofs.finals.push_books.Given as goal

abbrev pub invariant-loop-audited : goal.invariant-loop-audited
invariant-loop-audited l = string_bytes l.out ≡ string_bytes l.fn.out ++ finals_text (take l.audited-index l.books)

-- The lines that are left, added to the table so far, give the table.
use Rattle.std.proofs.Common.{◌≡◌, ◌+◌, length, drop}
use Rattle.mdl_lines.specs.Words.{lines_of}
use Rattle.mdl_client_table.specs.Forms.{nothing_read, with_lines}
use Rattle.mdl_client_table.proofs.lines.read_lines.Given as goal

abbrev pub invariant-loop-line : goal.invariant-loop-line
invariant-loop-line l = record {
  counted : l.number ≡ length l.yielded;
  read : with_lines (l.number + 1) (drop l.number (lines_of l.text)) l.reading ≡ with_lines 1 (lines_of l.text) nothing_read;
}

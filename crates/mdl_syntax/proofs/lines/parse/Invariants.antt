use Rattle.std.proofs.Common.{◌≡◌, ◌+◌, true, List, length, drop}
use Rattle.mdl_lines.specs.Lines.{lines_of}
use Rattle.mdl_lines.proofs.ScriptLemmas.{joined}
use Rattle.mdl_syntax.specs.declared.script.Line.{Line}
use Rattle.mdl_syntax.specs.Scripts.{lines_say, parsed}
use Rattle.mdl_syntax.proofs.lines.parse.Given as goal

-- the lines so far, which were kept while there was room, before what is said by those that are left, are the script's
abbrev pub invariant-loop-line : goal.invariant-loop-line
invariant-loop-line l = record {
  counted : l.number ≡ length l.yielded;
  so_far : List Line;
  read : parsed l.text ≡ joined so_far (lines_say (l.number + 1) (drop l.number (lines_of l.text)));
  kept : l.has_room ≡ true → so_far ≡ l.lines.items;
}

use Rattle.std.proofs.Common.{◌≡◌, ◌+◌, true, List, length, drop}
use Rattle.mdl_lock.specs.declared.script_command.ScriptCommand.{ScriptCommand}
use Rattle.mdl_lines.specs.Lines.{lines_of}
use Rattle.mdl_lines.specs.ScriptLines.{all_said}
use Rattle.mdl_lock.specs.Scripts.{line_says, parsed}
use Rattle.mdl_lines.proofs.ScriptLemmas.{joined}
use Rattle.mdl_lock.proofs.parse.parse.Given as goal

-- the commands so far, which were kept while there was room, before those of the lines that are left, are the script's
abbrev pub invariant-loop-line : goal.invariant-loop-line
invariant-loop-line l = record {
  counted : l.number ≡ length l.yielded;
  so_far : List ScriptCommand;
  read : parsed l.kind l.text ≡ joined so_far (all_said (line_says l.kind) (l.number + 1) (drop l.number (lines_of l.text)));
  kept : l.has_room ≡ true → so_far ≡ l.commands.items;
}

-- The lines so far are written.
use Rattle.std.proofs.Common.{◌≡◌, ◌++◌, take}
use Rattle.std.specs.String.{string_bytes}
use Rattle.mdl_script.specs.Texts.{told_text}
use Rattle.mdl_script.proofs.told.push_all_told.Given as goal

abbrev pub invariant-loop-told : goal.invariant-loop-told
invariant-loop-told l = string_bytes l.out ≡ string_bytes l.fn.out ++ told_text (take l.told-index l.all)

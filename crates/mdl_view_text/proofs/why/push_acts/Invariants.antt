-- So much was put there.
use Rattle.std.proofs.Common.{◌≡◌, ◌++◌, codes, take}
use Rattle.std.specs.List.{flat_map}
use Rattle.mdl_view_text.specs.ActTexts.{act_lines}
use Rattle.mdl_view_text.specs.Why.{deeper}
use Rattle.mdl_view_text.proofs.why.push_acts.Given as goal

abbrev pub invariant-loop-act : goal.invariant-loop-act
invariant-loop-act l = l.out.items ≡ l.fn.out.items ++ flat_map (act_lines l.names (codes "   ") deeper) (take l.act-index l.acts)

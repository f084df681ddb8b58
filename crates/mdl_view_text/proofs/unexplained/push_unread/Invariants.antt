-- So much was put there.
use Rattle.std.proofs.Common.{◌≡◌, ◌++◌, take}
use Rattle.std.specs.List.{flat_map}
use Rattle.mdl_view_text.specs.Why.{unread_line}
use Rattle.mdl_view_text.proofs.unexplained.push_unread.Given as goal

abbrev pub invariant-loop-left : goal.invariant-loop-left
invariant-loop-left l = l.out.items ≡ l.fn.out.items ++ flat_map unread_line (take l.left-index l.left_out)

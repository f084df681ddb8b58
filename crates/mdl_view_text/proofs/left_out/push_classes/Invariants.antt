-- What was put there, and the elements behind.
use Rattle.std.proofs.Common.{◌≡◌, ◌++◌, codes, drop}
use Rattle.mdl_view_text.specs.LeftOuts.{class_text}
use Rattle.mdl_view_text.specs.Layouts.{listed}
use Rattle.mdl_view_text.proofs.left_out.push_classes.Given as goal

abbrev pub invariant-loop-place : goal.invariant-loop-place
invariant-loop-place l =
    l.out.items ++ listed (codes ", ") class_text l.place (drop l.place l.classes) ≡ l.fn.out.items ++ listed (codes ", ") class_text 0 l.classes

-- What was put there, and the elements behind.
use Rattle.std.proofs.Common.{◌≡◌, ◌++◌, codes, drop}
use Rattle.mdl_view_text.specs.Json.{left_out_object}
use Rattle.mdl_view_text.specs.Layouts.{listed}
use Rattle.mdl_view_text.proofs.json_text.push_classes.Given as goal

abbrev pub invariant-loop-place : goal.invariant-loop-place
invariant-loop-place l =
    l.out.items ++ listed (codes ",") left_out_object l.place (drop l.place l.classes) ≡ l.fn.out.items ++ listed (codes ",") left_out_object 0 l.classes

-- What was put there, and the elements behind.
use Rattle.std.proofs.Common.{◌≡◌, ◌++◌, codes, drop}
use Rattle.mdl_view_text.specs.Json.{at_lock_object}
use Rattle.mdl_view_text.specs.Layouts.{listed}
use Rattle.mdl_view_text.proofs.json_text.push_each_at_lock.Given as goal

abbrev pub invariant-loop-place : goal.invariant-loop-place
invariant-loop-place l =
    l.out.items ++ listed (codes ",") (at_lock_object l.names) l.place (drop l.place l.ats) ≡ l.fn.out.items ++ listed (codes ",") (at_lock_object l.names) 0 l.ats

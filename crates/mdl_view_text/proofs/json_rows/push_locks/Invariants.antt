-- What was put there, and the elements behind.
use Rattle.std.proofs.Common.{◌≡◌, ◌++◌, codes, drop}
use Rattle.mdl_view_text.specs.Json.{lock_object}
use Rattle.mdl_view_text.specs.Layouts.{listed}
use Rattle.mdl_view_text.proofs.json_rows.push_locks.Given as goal

abbrev pub invariant-loop-place : goal.invariant-loop-place
invariant-loop-place l =
    l.out.items ++ listed (codes ",") (lock_object l.names) l.place (drop l.place l.locks) ≡ l.fn.out.items ++ listed (codes ",") (lock_object l.names) 0 l.locks

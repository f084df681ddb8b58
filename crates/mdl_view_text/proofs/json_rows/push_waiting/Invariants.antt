-- What was put there, and the elements behind.
use Rattle.std.proofs.Common.{◌≡◌, ◌++◌, codes, drop}
use Rattle.mdl_view_text.specs.Json.{waiting_object}
use Rattle.mdl_view_text.specs.Layouts.{listed}
use Rattle.mdl_view_text.proofs.json_rows.push_waiting.Given as goal

abbrev pub invariant-loop-place : goal.invariant-loop-place
invariant-loop-place l =
    l.out.items ++ listed (codes ",") (waiting_object l.names l.status) l.place (drop l.place l.tickets) ≡ l.fn.out.items ++ listed (codes ",") (waiting_object l.names l.status) 0 l.tickets

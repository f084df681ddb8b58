-- No wait so far is settled.
use Rattle.std.proofs.Common.{◌≡◌, take, None}
use Rattle.std.specs.List.{find}
use Rattle.mdl_core.specs.CoreCalls.{has_settled}
use Rattle.mdl_script.proofs.play.first_settled.Given as goal

abbrev pub invariant-loop-who : goal.invariant-loop-who
invariant-loop-who l = record {
  none : find (has_settled l.fn.space) (take l.who-index l.waiting) ≡ None;
  same : l.space ≡ l.fn.space;
}

-- What was put there, and the ways behind.
use Rattle.std.proofs.Common.{◌≡◌, ◌++◌, drop}
use Rattle.mdl_view_text.specs.Why.{ways_from}
use Rattle.mdl_view_text.proofs.why.push_each_way.Given as goal

abbrev pub invariant-loop-place : goal.invariant-loop-place
invariant-loop-place l = l.out.items ++ ways_from l.names l.place (drop l.place l.ways) ≡ l.fn.out.items ++ ways_from l.names 0 l.ways

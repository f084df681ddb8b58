-- None of the pairs so far is that of the session in the row.
use Rattle.std.proofs.Common.{◌≡◌, false, take}
use Rattle.mdl_graph.specs.Searches.{holds}
use Rattle.mdl_graph.proofs.waits.Waits.has.Given as goal

abbrev pub invariant-loop-wait : goal.invariant-loop-wait
invariant-loop-wait l = holds (take l.wait-index l.wait-items) l.row l.session ≡ false

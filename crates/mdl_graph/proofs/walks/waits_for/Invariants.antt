-- In none of the rows so far the one waits for the other.
use Rattle.std.proofs.Common.{◌≡◌, false}
use Rattle.mdl_graph.specs.Searches.{waits_in}
use Rattle.mdl_graph.proofs.LinkLemmas.{IsOnWay, any_from}
use Rattle.mdl_graph.proofs.walks.waits_for.Given as goal

abbrev pub invariant-loop-at : goal.invariant-loop-at
invariant-loop-at l = record {
  way : IsOnWay l.stands l.other l.at;
  none : any_from (λ row. waits_in l.waits row l.other l.waiter) l.stands l.other l.at ≡ false;
}

abbrev pub decreases-loop-at : goal.decreases-loop-at
decreases-loop-at l = l.at

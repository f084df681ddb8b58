-- Nothing was done yet, and none of the words so far was the victim's.
use Rattle.std.proofs.Common.{◌≡◌, None, take}
use Rattle.mdl_visits.specs.Searches.{read_of}
use Rattle.mdl_visits.proofs.settle_victim.settle_wait_of.Given as goal

abbrev pub invariant-loop-read : goal.invariant-loop-read
invariant-loop-read l = record {
  same : l.seat ≡ l.fn.seat;
  none : read_of l.victim (take l.read-index l.words) ≡ None;
}

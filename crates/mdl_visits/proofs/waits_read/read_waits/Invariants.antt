-- The words of the requests so far.
use Rattle.mdl_visits.proofs.Lemmas.{AreRead, OnlyReadsWaits, take}
use Rattle.mdl_visits.proofs.waits_read.read_waits.Given as goal

abbrev pub invariant-loop-wish : goal.invariant-loop-wish
invariant-loop-wish l = record {
  reads : OnlyReadsWaits l.fn.seat l.seat;
  words : AreRead (take l.wish-index l.wishes) l.words.items l.fn.seat l.seat;
}

-- To give up the pins that are left from here is to give up all from the start. If none was found so far, the same are left.
use Rattle.std.proofs.Common.{◌≡◌, false}
use Rattle.mdl_calls.specs.Words.{Runs}
use Rattle.mdl_context.specs.Holdings.{context_of}
use Rattle.mdl_context.specs.Tidying.{unneeded, unpinning_all}
use Rattle.mdl_context.proofs.TidyLemmas.{unneeded_from}
use Rattle.mdl_context.proofs.tidying.unpin_unneeded.Given as goal

abbrev pub invariant-loop-at : goal.invariant-loop-at
invariant-loop-at g l = record {
  speaks : g.S.LockSpace.speaks_for l.space l.who;
  run : (b : g.row.S.Denot) → Runs g.S.LockSpace.joins l.space (unpinning_all l.who (unneeded_from l.at (context_of l.who l.holdings))) tt b
      → Runs g.S.LockSpace.joins l.fn.space (unpinning_all l.who (unneeded (context_of l.who l.holdings))) tt b;
  none : l.found ≡ false → unneeded (context_of l.who l.holdings) ≡ unneeded_from l.at (context_of l.who l.holdings);
}

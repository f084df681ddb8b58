-- None of the places so far is pinned any more, and to go on from here is to do it all.
use Rattle.std.proofs.Common.{◌≡◌, ◌+◌, ◌-◌, length}
use Rattle.std.specs.List.{range_with_len}
use Rattle.mdl_calls.specs.Words.{HasNothing, Runs}
use Rattle.mdl_core.specs.Words.{Core, SpeaksFor, locks_at}
use Rattle.mdl_space.specs.CoreMembers.{core_space}
use Rattle.mdl_context.specs.Contexts.{LeavesOthers}
use Rattle.mdl_context.specs.Tidying.{unpinning_all}
use Rattle.mdl_c_calls.proofs.UnpinLemmas.{AreUnpinned}
use Rattle.mdl_c_calls.proofs.manager.contexts.unpin_all.Given as goal

abbrev pub invariant-loop-index : goal.invariant-loop-index
invariant-loop-index l = record {
  speaks : SpeaksFor l.space l.who;
  free : HasNothing (locks_at l.space l.who);
  books : l.space.books ≡ l.fn.space.books;
  unpinned : AreUnpinned l.index (locks_at l.space l.who);
  run : (b : Core) → Runs core_space.joins l.space (unpinning_all l.who (range_with_len (l.index + 1) (length l.fn.space.books - l.index))) tt b
      → Runs core_space.joins l.fn.space (unpinning_all l.who (range_with_len 1 (length l.fn.space.books))) tt b;
  others : LeavesOthers core_space l.who l.fn.space l.space;
}

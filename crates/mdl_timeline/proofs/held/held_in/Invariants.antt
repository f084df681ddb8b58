-- The locks so far are there.
use Rattle.std.proofs.Common.{◌≡◌, flat_map, take}
use Rattle.mdl_timeline.specs.Moments.{held_in_book}
use Rattle.mdl_timeline.proofs.held.held_in.Given as goal

abbrev pub invariant-loop-book : goal.invariant-loop-book
invariant-loop-book l = l.held.items ≡ flat_map held_in_book (take l.book-index l.books)

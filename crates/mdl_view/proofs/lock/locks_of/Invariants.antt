-- The locks of the books so far were made.
use Rattle.std.proofs.Common.{◌≡◌, map, take}
use Rattle.mdl_view.specs.Locks.{lock_of_book}
use Rattle.mdl_view.proofs.lock.locks_of.Given as goal

abbrev pub invariant-loop-book : goal.invariant-loop-book
invariant-loop-book l = l.locks.items ≡ map lock_of_book (take l.book-index l.books)

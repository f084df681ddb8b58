-- None of the tickets so far is ready.
use Rattle.std.proofs.Common.{◌≤◌}
use Rattle.std.specs.List.{position_or_len}
use Rattle.mdl_book.specs.Books.{is_ready}
use Rattle.mdl_book.proofs.book.Book.next_grantable_at.Given as goal

abbrev pub invariant-loop-index : goal.invariant-loop-index
invariant-loop-index l = l.index ≤ position_or_len (is_ready l.word.0 l.unsettled l.self) l.self.waiting

-- The books so far have their names.
use Rattle.std.proofs.Common.{◌≡◌, [], map, take}
use Rattle.mdl_view_text.specs.Names.{book_text}
use Rattle.mdl_view_text.proofs.names.names_of.Given as goal

abbrev pub invariant-loop-book : goal.invariant-loop-book
invariant-loop-book l = l.names ≡ record { locks = map book_text (take l.book-index l.books); owners = [] }

-- What a session has in hand, borrowed for writing: the book of a place, or the directory.
use Rattle.std.specs.Prelude.{ℕ}
use Rattle.atomic_table.specs.Lent.{seat_with}
use Rattle.atomic_table.specs.contracts.shared.Seat as seat
use Rattle.atomic_table.specs.declared.shared.Seat.{Seat}
use Rattle.mdl_book.specs.contracts.book.Book as book
use Rattle.std.specs.Borrow.{Fml, Lends, MutBor}
use Rattle.mdl_steps.specs.Prelude.{BookView, Keys, Slot, View}
use Rattle.mdl_steps.specs.contracts.slot.Directory as directory
use Rattle.mdl_steps.specs.contracts.slot.Slot as slot
use Rattle.mdl_steps.specs.contracts.view.View as view
use Rattle.mdl_steps.specs.declared.slot.Slot.TheVariants.{Directory, Place}

-- when the borrow ends, the seat has in hand, for the place, the book that the reference last had
abbrev pub LendsBook : ℕ → MutBor (Seat Slot View) → MutBor BookView → Fml
LendsBook place s r = Lends (seat.the_row slot.the_row view.the_row) book.the_row s r (λ book. seat_with s.now place (Place book))

-- when the borrow ends, the seat has in hand the directory that the reference last had
abbrev pub LendsDirectory : MutBor (Seat Slot View) → MutBor Keys → Fml
LendsDirectory s r = Lends (seat.the_row slot.the_row view.the_row) directory.the_row s r (λ keys. seat_with s.now 0 (Directory keys))

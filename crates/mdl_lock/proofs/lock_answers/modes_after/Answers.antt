-- The row of the mode has all modes that clash with it.
use Rattle.mdl_book.specs.Books.{lock_kind}
use Rattle.mdl_lock.specs.Locks.{lock_of}
use Rattle.mdl_lock.proofs.WaiterLemmas.{in_row}
use Rattle.mdl_lock.proofs.lock_answers.modes_after.Goals as goal

pub returns : goal.returns
returns c = rw (c.granted_row.ensures, c.kind.ensures, c.key.ensures) (in_row (lock_kind c.args.book.now) c.args.gone (lock_of c.args.book.now) c.requires)

-- The bits of the row are cleared.
use Rattle.mdl_book.specs.Books.{lock_kind}
use Rattle.mdl_lock.proofs.WaiterLemmas.{bits_beside}
use Rattle.mdl_lock.proofs.lock_answers.modes_beside.Goals as goal

pub returns : goal.returns
returns c = λ mode. rw (c.granted_row.ensures, c.kind.ensures, c.key.ensures) (bits_beside (lock_kind c.args.book.now) c.args.granted c.args.modes mode)

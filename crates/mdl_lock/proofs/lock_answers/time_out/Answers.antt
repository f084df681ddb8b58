-- The wait that is given up leaves the lock orderly, and only those that clash with it can be granted then.
use Rattle.mdl_book.specs.Books.{lock_kind}
use Rattle.mdl_lock.specs.Locks.{lock_of}
use Rattle.mdl_lock.proofs.OrderLemmas.{orderly_cancel}
use Rattle.mdl_lock.proofs.WaiterLemmas.{blocked_by_waiting, some_from_ok}
use Rattle.mdl_lock.proofs.lock_answers.time_out.Goals as goal

pub grant_waiters-requires-clause-orderly : goal.grant_waiters-requires-clause-orderly
grant_waiters-requires-clause-orderly c =
    rw c.cancel.ensures.cancelled (orderly_cancel (lock_of c.args.book.now) c.args.session 1 c.requires.orderly)

pub grant_waiters-requires-clause-blocked : goal.grant_waiters-requires-clause-blocked
grant_waiters-requires-clause-blocked c =
    let book = c.args.book.now in
    let found = some_from_ok _ c.in-Ok.ticket _ c.in-Ok.ensures.answer in
    rw c.cancel.ensures.cancelled (blocked_by_waiting (lock_kind book) c.args.session c.in-Ok.ticket (lock_of book) found c.requires.none_forgotten)

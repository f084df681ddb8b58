-- The first that can be granted is in one of the modes.
use Rattle.std.proofs.Common.{sym, ◌∙◌, subst}
use Rattle.mdl_book.specs.Books.{lock_kind}
use Rattle.mdl_lock.specs.Locks.{lock_of, AreInModes}
use Rattle.mdl_lock.proofs.WaiterLemmas.{next-in_modes, next-in_none}
use Rattle.mdl_lock.proofs.lock_answers.next_waiter.Goals as goal

pub returns-then-hopeful-eq0 : goal.returns-then-hopeful-eq0
returns-then-hopeful-eq0 c =
    let kind = lock_kind c.args.book.now in
    let lock = lock_of c.args.book.now in
    sym (next-in_none kind lock (subst (λ modes. AreInModes modes kind lock) c.if-hopeful-eq0.true c.requires))

pub returns : goal.returns
returns c = c.first_hopeful.ensures ∙ next-in_modes (lock_kind c.args.book.now) c.args.hopeful (lock_of c.args.book.now) c.requires

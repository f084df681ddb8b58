-- What was told and what is still to be told make up the whole, at most as many turns as are left.
use Rattle.std.proofs.Common.{◌≡◌, ◌-◌, ◌++◌}
use Rattle.std.specs.String.{string_bytes}
use Rattle.mdl_book.specs.Books.{lock_kind}
use Rattle.mdl_lock.specs.Answering.{text_of}
use Rattle.mdl_lock.specs.Answers.{grants_at_most, grants_until_none}
use Rattle.mdl_lock.specs.Locks.{lock_of, AreInModes, IsOrderly}
use Rattle.mdl_lock.proofs.lock_answers.grant_waiters.Given as goal

abbrev pub invariant-loop-turn : goal.invariant-loop-turn
invariant-loop-turn l =
    let kind = lock_kind l.fn.book in
    let rest = grants_at_most kind (l.most - l.turn) (lock_of l.book) in
    let whole = grants_until_none kind (lock_of l.fn.book) in
    record {
      told : string_bytes l.out ++ text_of rest.answers ≡ string_bytes l.fn.out ++ text_of whole.answers;
      left : rest.lock ≡ whole.lock;
      key : l.book.key ≡ l.fn.book.key;
      orderly : IsOrderly (lock_of l.book);
      hopeful : AreInModes l.hopeful kind (lock_of l.book);
    }

-- The text and the book are what comes of the commands so far.
use Rattle.std.proofs.Common.{◌≡◌, take}
use Rattle.std.specs.String.{string_bytes}
use Rattle.mdl_book.specs.Books.{lock_kind}
use Rattle.mdl_book.specs.Granting.{IsLawful}
use Rattle.mdl_lock.specs.Answering.{text_of}
use Rattle.mdl_lock.specs.Answers.{all_obeyed, free_lock}
use Rattle.mdl_lock.specs.Locks.{lock_of, IsOrderly}
use Rattle.mdl_lock.proofs.lock_answers.answers_to.Given as goal

abbrev pub invariant-loop-command : goal.invariant-loop-command
invariant-loop-command l =
    let so_far = all_obeyed l.fn.kind (take l.command-index l.commands) free_lock in
    record {
      told : string_bytes l.text ≡ text_of so_far.answers;
      left : lock_of l.book ≡ so_far.lock;
      kind : lock_kind l.book ≡ l.fn.kind;
      orderly : IsOrderly (lock_of l.book);
      lawful : IsLawful l.fn.kind l.book.granted;
    }

-- No ticket is fast, so the lists tell all.
use Rattle.std.proofs.Common.{◌∙◌}
use Rattle.mdl_book.specs.Books.{lock_kind}
use Rattle.mdl_book.proofs.FastLemmas.{can_be_granted-none}
use Rattle.mdl_lock.proofs.lock_answers.can_grant.Goals as goal

pub returns : goal.returns
returns c =
    let book = c.args.book.now in
    c.can_grant.ensures.exact ∙ can_be_granted-none (lock_kind book) book.granted book.waiting c.args.session c.args.mode

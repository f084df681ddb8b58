-- The counts of the word tell just what a list of its fast tickets would.
use Rattle.std.proofs.Common.{◌≡◌, ◌∙◌, sym, rules}
use Rattle.mdl_book.specs.Books.{lock_kind}
use Rattle.mdl_book.specs.FastTickets.{can_be_granted}
use Rattle.mdl_book.proofs.FastLemmas.{can_be_granted-fast, can_be_granted-covered}
use Rattle.mdl_book.proofs.book.Book.can_grant.Goals as goal

pub returns-then-may_stand-clause-counted : goal.returns-then-may_stand-clause-counted
returns-then-may_stand-clause-counted c =
    let book = c.args.self.now in
    let exact : c.all_overtaken.result ≡ can_be_granted (lock_kind book) book.granted book.waiting c.args.word.0 c.args.session c.args.mode = search rules in
    λ fast counts others. exact ∙ can_be_granted-fast counts book.granted book.waiting c.args.session c.args.mode others

pub returns-else-may_stand-clause-counted : goal.returns-else-may_stand-clause-counted
returns-else-may_stand-clause-counted c =
    let book = c.args.self.now in
    let exact : c.may_stand.result ≡ can_be_granted (lock_kind book) book.granted book.waiting c.args.word.0 c.args.session c.args.mode = search rules in
    λ fast counts others. exact ∙ can_be_granted-fast counts book.granted book.waiting c.args.session c.args.mode others

pub returns-then-may_stand-clause-covered : goal.returns-then-may_stand-clause-covered
returns-then-may_stand-clause-covered c =
    let book = c.args.self.now in
    let exact : c.all_overtaken.result ≡ can_be_granted (lock_kind book) book.granted book.waiting c.args.word.0 c.args.session c.args.mode = search rules in
    λ fast covers yes. can_be_granted-covered covers book.granted book.waiting c.args.session c.args.mode (sym exact ∙ yes)

pub returns-else-may_stand-clause-covered : goal.returns-else-may_stand-clause-covered
returns-else-may_stand-clause-covered c =
    let book = c.args.self.now in
    let exact : c.may_stand.result ≡ can_be_granted (lock_kind book) book.granted book.waiting c.args.word.0 c.args.session c.args.mode = search rules in
    λ fast covers yes. can_be_granted-covered covers book.granted book.waiting c.args.session c.args.mode (sym exact ∙ yes)

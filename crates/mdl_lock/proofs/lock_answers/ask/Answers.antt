-- A session that has no ticket is granted one or joins those that wait, and there is room for it.
use Rattle.std.proofs.Common.{◌≡◌, true, false, rules}
use Rattle.mdl_book.specs.Books.{lock_kind, granting, enqueueing}
use Rattle.mdl_book.specs.Granting.{is_grantable}
use Rattle.mdl_book.proofs.GrantingLemmas.{compatible-from_grantable}
use Rattle.mdl_lock.specs.Answers.{new_ticket, holds_or_waits}
use Rattle.mdl_lock.specs.Locks.{lock_of}
use Rattle.mdl_lock.proofs.OrderLemmas.{orderly_grant, orderly_wait, never_full, never_refused, only_memory}
use Rattle.mdl_lock.proofs.lock_answers.ask.Goals as goal

pub map_err-requires : goal.map_err-requires
map_err-requires c =
    let book = c.args.book.now in
    let ticket = new_ticket c.args.session c.args.mode in
    let grantable : is_grantable (lock_kind book) book.granted book.waiting ticket.session ticket.mode ≡ true = cc in
    let compatible = compatible-from_grantable (lock_kind book) book.granted book.waiting ticket grantable in
    only_memory _ c.grant.result (never_refused book ticket c.requires.orderly compatible) c.grant.ensures.refused

pub returns-then-can_grant-clause-orderly : goal.returns-then-can_grant-clause-orderly
returns-then-can_grant-clause-orderly c =
    let book = c.args.book.now in
    let absent : holds_or_waits c.args.session (lock_of book) ≡ false = search rules in
    let granted : c.grant.new.self ≡ granting (new_ticket c.args.session c.args.mode) book = search rules in
    rw granted (orderly_grant (lock_of book) c.args.session c.args.mode c.requires.session absent c.requires.orderly)

pub map_err-requires-2 : goal.map_err-requires-2
map_err-requires-2 c = only_memory _ c.enqueue.result (never_full (lock_of c.args.book.now) c.requires.orderly) c.enqueue.ensures.refused

pub returns-clause-orderly : goal.returns-clause-orderly
returns-clause-orderly c =
    let book = c.args.book.now in
    let absent : holds_or_waits c.args.session (lock_of book) ≡ false = search rules in
    let waits : c.enqueue.new.self ≡ enqueueing (new_ticket c.args.session c.args.mode) book = search rules in
    rw waits (orderly_wait (lock_of book) c.args.session c.args.mode c.requires.session absent c.requires.orderly)

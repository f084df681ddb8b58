-- Each turn grants the waiter that the definition grants.
use Rattle.std.proofs.Common.{◌≡◌, ◌-◌, ◌+◌, ◌&&◌, not, suc, Some, None, Ok, length, sym, ap, ◌∙◌, subst, arith}
use Rattle.std.specs.Option.{ok_or}
use Rattle.mdl_key.specs.Modes.{kind_of}
use Rattle.mdl_key.specs.declared.mode.Mode.{Mode}
use Rattle.mdl_key.specs.Words.{clashes, has_bit}
use Rattle.mdl_book.specs.declared.book_error.BookError.TheVariants.{NotHere}
use Rattle.mdl_book.specs.Books.{lock_kind}
use Rattle.mdl_book.specs.declared.ticket.Ticket.{Ticket}
use Rattle.mdl_lock.specs.Answers.{next_waiter, admitted}
use Rattle.mdl_lock.specs.Locks.{lock_of, AreInModes}
use Rattle.mdl_lock.proofs.LockLemmas.{named-next, told_end, left_end, told_more, left_more}
use Rattle.mdl_lock.proofs.OrderLemmas.{orderly_admit}
use Rattle.mdl_lock.proofs.WaiterLemmas.{still_in}
use Rattle.mdl_lock.proofs.lock_answers.grant_waiters.Goals as goal

pub next_waiter-requires : goal.next_waiter-requires
next_waiter-requires c =
    let book = c.loop-turn.book in
    let same = ap (λ k. kind_of k.namespace) c.loop-turn.invariant.key in
    subst (λ k. AreInModes c.loop-turn.hopeful k (lock_of book)) (sym same) c.loop-turn.invariant.hopeful

pub returns-in_default-clause-told : goal.returns-in_default-clause-told
returns-in_default-clause-told c =
    let kind = lock_kind c.args.book.now in
    let n = length c.waiting-most.result.now - c.loop-turn.turn in
    let same : lock_kind c.loop-turn.book ≡ kind = ap (λ k. kind_of k.namespace) c.loop-turn.invariant.key in
    let none : next_waiter kind (lock_of c.loop-turn.book) ≡ None = subst (λ k. next_waiter k (lock_of c.loop-turn.book) ≡ None) same (sym c.in_default.ensures) in
    told_end kind n (lock_of c.loop-turn.book) _ _ none c.loop-turn.invariant.told

pub returns-in_default-clause-left : goal.returns-in_default-clause-left
returns-in_default-clause-left c =
    let kind = lock_kind c.args.book.now in
    let n = length c.waiting-most.result.now - c.loop-turn.turn in
    let same : lock_kind c.loop-turn.book ≡ kind = ap (λ k. kind_of k.namespace) c.loop-turn.invariant.key in
    let none : next_waiter kind (lock_of c.loop-turn.book) ≡ None = subst (λ k. next_waiter k (lock_of c.loop-turn.book) ≡ None) same (sym c.in_default.ensures) in
    left_end kind n (lock_of c.loop-turn.book) _ none c.loop-turn.invariant.left

pub unwrap-ticket-requires : goal.unwrap-ticket-requires
unwrap-ticket-requires c =
    let named = named-next c.loop-turn.book c.in-Some.next (sym c.in-Some.ensures) c.loop-turn.invariant.orderly in
    rw (c.admit.ensures.answer, named.there)

pub loop-turn-preserved : goal.loop-turn-preserved
loop-turn-preserved c =
    let book = c.loop-turn.book in
    let kind = lock_kind c.args.book.now in
    let n = length c.waiting-most.result.now - c.loop-turn.turn in
    let m = length c.waiting-most.result.now - (c.loop-turn.turn + 1) in
    let ticket = c.in-Some.next in
    let next : next_waiter (lock_kind book) (lock_of book) ≡ Some ticket = sym c.in-Some.ensures in
    let named = named-next book ticket next c.loop-turn.invariant.orderly in
    let same : lock_kind book ≡ kind = ap (λ k. kind_of k.namespace) c.loop-turn.invariant.key in
    let some : next_waiter kind (lock_of book) ≡ Some ticket = subst (λ k. next_waiter k (lock_of book) ≡ Some ticket) same next in
    let fewer : n ≡ suc m = omega arith in
    let after : lock_of c.admit.new.self ≡ admitted ticket (lock_of book) = ap lock_of c.admit.ensures.admitted ∙ named.admits in
    let answered : c.admit.result ≡ Ok ticket = c.admit.ensures.answer ∙ ap (λ o. ok_or o NotHere) named.there in
    let is_ticket : c.unwrap-ticket.result ≡ ticket = cc in
    let key : c.admit.new.self.key ≡ c.args.book.now.key = ap (λ lists. lists.key) c.admit.ensures.admitted ∙ c.loop-turn.invariant.key in
    let modes = c.loop-turn.hopeful in
    let beside : (mode : Mode) → has_bit c.modes_beside-hopeful.result mode ≡ (has_bit modes mode && not (clashes kind ticket.mode mode)) =
    λ mode. c.modes_beside-hopeful.ensures mode
    ∙ ap (λ (t : Ticket). has_bit modes mode && not (clashes (lock_kind c.admit.new.self) t.mode mode)) is_ticket
    ∙ ap (λ k. has_bit modes mode && not (clashes (kind_of k.namespace) ticket.mode mode)) key in
    record {
      told = rw after (told_more kind n m (lock_of book) ticket _ _ _ fewer some (rw (← is_ticket) c.in_ok-write_answer.ensures.told) c.loop-turn.invariant.told);
      left = rw after (left_more kind n m (lock_of book) _ ticket fewer some c.loop-turn.invariant.left);
      key = key;
      orderly = rw after (orderly_admit (lock_of book) _ ticket some c.loop-turn.invariant.orderly);
      hopeful = subst (λ l. AreInModes c.modes_beside-hopeful.result kind l) (sym after)
          (still_in kind (lock_of book) ticket some c.loop-turn.invariant.orderly modes c.modes_beside-hopeful.result c.loop-turn.invariant.hopeful beside);
    }

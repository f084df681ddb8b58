-- Each book is copied under its latch, whose record stays until the latches of the places behind it are given back.
use Rattle.std.proofs.Common.{[], ◌∷◌, refl, ap, ◌∙◌, append_assoc, arith, rules, ◌++◌, List}
use Rattle.mdl_visits.proofs.Lemmas.{Audited, SeatState, as_reads, back_steps, carried_there, gathers_more, gathers_none, may_put, may_take_more, no_steps, on_ok_weaker}
use Rattle.mdl_visits.proofs.calls.audit.+audit_from.Goals as goal

pub add_book-requires-clause-carried : goal.add_book-requires-clause-carried
add_book-requires-clause-carried g t c =
    let arrives = c.await_latch-latch.ensures.arrives in (arrives.latch.book, arrives.holds.carried)

pub put_latch-requires-clause-put : goal.put_latch-requires-clause-put
put_latch-requires-clause-put g t c =
    let latch = c.await_latch-latch in
    let copied : SeatState = c.add_book.new.seat in
    may_put c.args.place latch.result.place c.args.seat.now latch.new.seat copied latch.ensures.arrives.at latch.ensures.arrives.taken latch.ensures.arrives.came.0 c.add_book.ensures.same copied (as_reads copied copied (refl, no_steps copied.me))

pub returns-in-Err-clause-steps : goal.returns-in-Err-clause-steps
returns-in-Err-clause-steps g t c =
    let latch = c.await_latch-latch in
    let copied : SeatState = c.add_book.new.seat in
    back_steps c.args.place latch.result.place c.args.seat.now latch.new.seat copied latch.ensures.arrives.at latch.ensures.arrives.taken latch.ensures.arrives.came.0 c.add_book.ensures.same
    copied (as_reads copied copied (refl, no_steps copied.me)) c.put_latch.new.self c.put_latch.ensures.made c.requires.through.rising refl refl

pub audit_from-outcome-requires : goal.audit_from-outcome-requires
audit_from-outcome-requires g t c =
    let latch = c.await_latch-latch in
    let nearer = c.if-place-last.false in
    let through = may_take_more c.args.place latch.result.place c.args.seat.now latch.new.seat c.add_book.new.seat latch.ensures.arrives.at latch.ensures.arrives.taken latch.ensures.arrives.came.0 c.add_book.ensures.same
    c.args.last c.requires.through (omega arith) in
    λ κs live. (search rules, (search rules, through))

pub returns-then-place-last-clause-gathered : goal.returns-then-place-last-clause-gathered
returns-then-place-last-clause-gathered g t c =
    let next = c.requires.through.next in
    gathers_none c.args.place c.args.last c.args.audited.now.items c.args.seat.now.me c.args.seat.now.me (omega arith)

pub put_latch-requires-2-clause-put : goal.put_latch-requires-2-clause-put
put_latch-requires-2-clause-put g t c =
    let latch = c.await_latch-latch in
    let copied : SeatState = c.add_book.new.seat in
    let gathered : SeatState = c.audit_from-outcome.new.seat in
    may_put c.args.place latch.result.place c.args.seat.now latch.new.seat copied latch.ensures.arrives.at latch.ensures.arrives.taken latch.ensures.arrives.came.0 c.add_book.ensures.same
    gathered (as_reads copied gathered c.audit_from-outcome.ensures.steps)

pub returns-clause-steps : goal.returns-clause-steps
returns-clause-steps g t c =
    let latch = c.await_latch-latch in
    let copied : SeatState = c.add_book.new.seat in
    let gathered : SeatState = c.audit_from-outcome.new.seat in
    back_steps c.args.place latch.result.place c.args.seat.now latch.new.seat copied latch.ensures.arrives.at latch.ensures.arrives.taken latch.ensures.arrives.came.0 c.add_book.ensures.same
    gathered (as_reads copied gathered c.audit_from-outcome.ensures.steps) c.put_latch-2.new.self c.put_latch-2.ensures.made c.requires.through.rising refl refl

pub returns-clause-gathered : goal.returns-clause-gathered
returns-clause-gathered g t c =
    let latch = c.await_latch-latch in
    let copied : SeatState = c.add_book.new.seat in
    let gathered : SeatState = c.audit_from-outcome.new.seat in
    let book = latch.ensures.arrives.taken.0.book in
    let one : Audited = record { place = latch.result.place; book = book } in
    let added = c.in_default.ensures.added book
    (carried_there c.args.place latch.result.place c.args.seat.now latch.new.seat latch.new.seat latch.ensures.arrives.at latch.ensures.arrives.taken latch.ensures.arrives.came.0 refl) in
    let before : List Audited = c.args.audited.now.items in
    on_ok_weaker c.audit_from-outcome.result
    (λ more. (gathers_more c.args.place latch.result.place c.args.seat.now latch.new.seat copied latch.ensures.arrives.at latch.ensures.arrives.taken latch.ensures.arrives.came.0 c.add_book.ensures.same
    gathered (as_reads copied gathered c.audit_from-outcome.ensures.steps) c.put_latch-2.new.self c.put_latch-2.ensures.made c.requires.through.rising
    c.args.last before c.add_book.new.audited.items c.audit_from-outcome.new.audited.items c.audit_from-outcome.new.audited.items more
    (more.listed ∙ ap (λ (xs : List Audited). xs ++ more.books) added ∙ append_assoc before (one ∷ []) more.books)).0)
    c.audit_from-outcome.ensures.gathered

-- The next one may stand beside all that are granted, and beside the session's own before it, so it is granted, or there is no room for it and those
-- before it are taken out again.
use Rattle.mdl_book.specs.declared.book_error.BookError.TheVariants as fault
use Rattle.mdl_visits.proofs.Lemmas.{BookView, Err, HasBookInHand, List, Refuses, SeatState, SessionTicket, ap, first_stand, get_or, grant_fault, granting, granting_more, granting_own, no_own, no_room_then, none_written, refl, subst, sym, take, ticket_by, with_book, ℕ, ◌∙◌}
use Rattle.mdl_visits.proofs.calls.materialise.write_gains.Goals as goal

pub write_gain-requires : goal.write_gain-requires
write_gain-requires c =
    let s : SeatState = c.args.seat.now in
    let place = c.args.latch.now.place in
    let can = c.requires.can in
    let so_far : BookView = granting_own s.me.0.number (take c.loop-at.at c.args.tickets.now) can.0 in
    record { carried = (so_far, subst (HasBookInHand place so_far) (sym (c.loop-at.invariant can.0 can.1)) refl) }

pub write_losses-requires : goal.write_losses-requires
write_losses-requires c =
    let can = c.requires.can in
    let is = c.in-Err.ensures.unchanged ∙ c.loop-at.invariant can.0 can.1 in
    record { stand = (can.0, first_stand c.args.latch.now.place c.args.tickets.now c.loop-at.at can.0 c.args.seat.now c.write_gain.new.self can.1 is) }

pub returns-in-Err-clause-refused : goal.returns-in-Err-clause-refused
returns-in-Err-clause-refused c = λ book can.
    let s : SeatState = c.args.seat.now in
    let place = c.args.latch.now.place in
    let who : ℕ = s.me.0.number in
    let tickets : List SessionTicket = c.args.tickets.now in
    let i : ℕ = c.loop-at.at in
    let t : SessionTicket = get_or tickets i no_own in
    let so_far : BookView = granting_own who (take i tickets) book in
    let was = c.loop-at.invariant book can in
    let refuses = c.in-Err.ensures.refused so_far (subst (HasBookInHand place so_far) (sym was) refl) in
    let is = c.in-Err.ensures.unchanged ∙ was in (
      c.write_losses.ensures.written book (first_stand place tickets i book s c.write_gain.new.self can is)
          ∙ ap (λ (x : SeatState). with_book place book x) is
          ∙ none_written place book s can.in_hand,
      no_room_then Unit who tickets i no_own book c.loop-at-test.true can.beside c.in-Err.cause
          (subst (λ (x : SeatState). Refuses {T = Unit} (grant_fault (ticket_by x.me.0.number t) 0 so_far) fault.OutOfMemory (Err c.in-Err.cause)) was refuses),
    )

pub loop-at-preserved : goal.loop-at-preserved
loop-at-preserved c = λ book can.
    let s : SeatState = c.args.seat.now in
    let place = c.args.latch.now.place in
    let who : ℕ = s.me.0.number in
    let tickets : List SessionTicket = c.args.tickets.now in
    let i : ℕ = c.loop-at.at in
    let t : SessionTicket = get_or tickets i no_own in
    let so_far : BookView = granting_own who (take i tickets) book in
    let was = c.loop-at.invariant book can in
    c.in_default.ensures.written so_far (subst (HasBookInHand place so_far) (sym was) refl)
    ∙ ap (λ (x : SeatState). with_book place (granting (ticket_by x.me.0.number t) so_far) x) was
    ∙ ap (λ (b : BookView). with_book place b s) (granting_more who tickets i no_own book c.loop-at-test.true)

-- The next one is the first that is granted behind what was there before, so it is found and taken out.
use Rattle.std.proofs.Common.{◌≡◌, ℕ, true, List, drop, get_or, refl, sym, ap, ◌∙◌, subst, is_some}
use Rattle.mdl_visits.proofs.Lemmas.{BookView, HasBookInHand, NotHere, SeatState, SessionTicket, granting_own, next_found, next_out, no_own, removing, taken_out, ticket_of, with_book}
use Rattle.mdl_visits.proofs.calls.materialise.write_losses.Goals as goal

pub loop-ticket-preserved : goal.loop-ticket-preserved
loop-ticket-preserved c = λ book stand.
    let s : SeatState = c.args.seat.now in
    let place = c.args.latch.now.place in
    let who : ℕ = s.me.0.number in
    let tickets : List SessionTicket = c.args.tickets.now in
    let i : ℕ = c.loop-ticket.ticket-index in
    let t : SessionTicket = get_or tickets i no_own in
    let left : BookView = granting_own who (drop i tickets) book in
    let inside = c.loop-ticket-test.true in
    let was : c.loop-ticket.seat ≡ with_book place left s = c.loop-ticket.invariant book stand in
    let carried = subst (HasBookInHand place left) (sym was) refl in
    let there = subst (λ (x : SeatState). is_some (ticket_of x.me.0.number t.number left.granted) ≡ true) (sym was)
    (ap is_some (next_found who tickets i no_own book inside stand.ungranted)) in
    let gone = c.write_loss-gone in
    taken_out (ticket_of c.loop-ticket.seat.me.0.number t.number left.granted) NotHere gone.result there (gone.ensures.refused left carried)
    (gone.ensures.written left carried)
    ∙ ap (λ (x : SeatState). with_book place (removing x.me.0.number t.number left) x) was
    ∙ ap (λ (b : BookView). with_book place b s) (next_out who tickets i no_own book inside stand.ungranted)

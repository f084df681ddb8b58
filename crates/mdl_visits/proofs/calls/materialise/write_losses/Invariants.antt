-- The tickets so far are out.
use Rattle.std.proofs.Common.{◌≡◌, drop}
use Rattle.mdl_visits.proofs.Lemmas.{BookView, Stand, granting_own, with_book}
use Rattle.mdl_visits.proofs.calls.materialise.write_losses.Given as goal

abbrev pub invariant-loop-ticket : goal.invariant-loop-ticket
invariant-loop-ticket l = (book : BookView) → Stand l.fn.latch.place l.fn.tickets book l.fn.seat
    → l.seat ≡ with_book l.fn.latch.place (granting_own l.fn.seat.me.0.number (drop l.ticket-index l.fn.tickets) book) l.fn.seat

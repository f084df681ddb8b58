-- The tickets so far are granted.
use Rattle.std.proofs.Common.{◌≡◌, take}
use Rattle.mdl_visits.proofs.Lemmas.{BookView, CanStand, granting_own, with_book}
use Rattle.mdl_visits.proofs.calls.materialise.write_gains.Given as goal

abbrev pub invariant-loop-at : goal.invariant-loop-at
invariant-loop-at l = (book : BookView) → CanStand l.fn.latch.place l.fn.tickets book l.fn.seat
    → l.seat ≡ with_book l.fn.latch.place (granting_own l.fn.seat.me.0.number (take l.at l.fn.tickets) book) l.fn.seat

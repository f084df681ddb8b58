-- Each session that has a settled wait is put into the set.
use Rattle.std.proofs.Common.{◌≡◌, ◌+◌, ◌-◌, ℕ, Bool, sym, ap, ◌∙◌, arith}
use Rattle.std.proofs.lemmas.List.{get_or_default}
use Rattle.mdl_core.specs.Words.{SeatView, empty_seat, is_settled_wait, seat_at}
use Rattle.mdl_space.proofs.ServingLemmas.{set-empty, set-put, set-passed}
use Rattle.mdl_space.proofs.core_space.CoreSpace.settled_sessions.Goals as goal
use Rattle.mdl_space.proofs.core_space.CoreSpace.settled_sessions.Goals.{then-is_settled, else-is_settled}

pub loop-index-init : goal.loop-index-init
loop-index-init c = rw c.new-settled.ensures (set-empty (λ who. is_settled_wait (seat_at who c.args.self.now).wait))

pub loop-index-preserved : goal.loop-index-preserved
loop-index-preserved c =
    let index : ℕ = c.loop-index.index in
    let closed_at : ℕ → Bool = λ who. is_settled_wait (seat_at who c.args.self.now).wait in
    let place : index + 1 - 1 ≡ index = omega arith in
    let seat : c.seat-item.result ≡ seat_at (index + 1) c.args.self.now =
    rw (← c.self.view_is, place) (rw c.deref-seat-items.ensures.value at
    (c.seat-item.is ∙ get_or_default c.deref-seat-items.result.now index c.seat-item.result empty_seat c.loop-index-test.true)) in
    let here : c.is_settled.result ≡ closed_at (index + 1) = c.is_settled.ensures ∙ ap (λ (s : SeatView). is_settled_wait s.wait) seat in
    elim c.if-is_settled.branch [
      | then-is_settled w ↦ rw (w.settled-is, w.insert.ensures) (set-put c.loop-index.settled index closed_at c.loop-index.invariant (sym here ∙ w.if-is_settled.true))
      | else-is_settled w ↦ rw w.settled-is (set-passed c.loop-index.settled index closed_at c.loop-index.invariant (sym here ∙ w.if-is_settled.false))
    ]

-- The session came, granted waits and went.
use Rattle.mdl_visits.proofs.Lemmas.{Mine, ReschedulesAndLeaves, TableId, [], inside_there, refl, subst, visits_and_reschedules, went_same, ℕ, ◌∙◌}
use Rattle.mdl_visits.proofs.calls.reschedule.reschedule.Goals as goal

pub returns : goal.returns
returns g c =
    let latch = c.await_latch-latch in
    let came : Mine = latch.new.seat.me in
    let went : Mine = c.reschedule_and_put.new.seat.me in
    let id = c.args.seat.now.table in
    let left = c.reschedule_and_put.ensures.served.left in
    let out = subst (λ (t : TableId). ReschedulesAndLeaves t latch.result.place [] came went) latch.ensures.arrives.came.0 left.1 in
    record {
      rescheduled = (
        left.0 ∙ latch.ensures.arrives.came.0,
        visits_and_reschedules id c.args.place [] c.args.seat.now.me came went (inside_there latch.ensures.arrives) latch.ensures.arrives.came.2 (subst (λ (q : ℕ). ReschedulesAndLeaves id q [] came went) latch.ensures.arrives.at out),
      );
      once = went_same latch.ensures.arrives latch.new.seat c.reschedule_and_put.new.seat refl c.reschedule_and_put.ensures.served.once;
    }

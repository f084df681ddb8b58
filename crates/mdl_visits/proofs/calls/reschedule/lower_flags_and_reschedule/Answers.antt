-- The flags are lowered with the deeds, and waits are granted with none.
use Rattle.mdl_visits.proofs.Lemmas.{Mine, ReschedulesAndLeaves, TableId, [], false, leaves_lowered, step_lowered, subst, visit_after, visits_and_reschedules, within_lowered, ◌∙◌}
use Rattle.mdl_visits.proofs.calls.reschedule.lower_flags_and_reschedule.Goals as goal

pub reschedule_and_put-requires : goal.reschedule_and_put-requires
reschedule_and_put-requires c =
    let here = c.lower_flags.ensures.lowered.orderly in
    record { here = record { is_place = here.is_place; latch = here.latch; holds = here.holds; is_so = here.is_so.0 } }

pub returns : goal.returns
returns c =
    let place = c.args.latch.place in
    let ds = c.args.deeds.now in
    let m : Mine = c.args.seat.now.me in
    let a : Mine = c.lower_flags.new.seat.me in
    let b : Mine = c.reschedule_and_put.new.seat.me in
    let lowered = c.lower_flags.ensures.lowered.lowered in
    let left = c.reschedule_and_put.ensures.served.left in
    let there = subst (λ (t : TableId). ReschedulesAndLeaves t place [] a b) lowered.0 left.1 in
    record {
      left = record {
        rescheduled = λ s came. (
          left.0 ∙ lowered.0 ∙ came.0,
          visits_and_reschedules s.table place ds s.me m b came.1 came.2
              (subst (λ (t : TableId). ReschedulesAndLeaves t place ds m b) came.0 (leaves_lowered c.args.seat.now.table place ds m a b lowered.1 there)),
        );
        step = step_lowered c.args.seat.now.table place ds m a b lowered.1 there;
        once = visit_after false m a b (within_lowered false m a place ds lowered.1) place c.reschedule_and_put.ensures.served.once;
      };
    }

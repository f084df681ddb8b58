-- The flags were lowered, and then the latch was put.
use Rattle.mdl_visits.proofs.Lemmas.{DidUnder, IsStepOf, Leaves, Mine, PutsBack, StepRecord, [], ap, false, first_step, inr, leaves, mine, puts_back, refl, subst, sym, table_of, unlatched, visit_after, visit_put, visits_left, within_lowered, ◌∙◌}
use Rattle.mdl_visits.proofs.enter_and_leave.lower_flags_and_put.Goals as goal

pub lower_flags-requires : goal.lower_flags-requires
lower_flags-requires c = record { worked = (false, c.requires.worked) }

pub put_latch-requires : goal.put_latch-requires
put_latch-requires c =
    let here = c.lower_flags.ensures.lowered.orderly in
    record {
      place = here.is_place;
      put = (
        here.latch,
        record { holds = here.holds; act = inr refl; may = tt },
        here.is_so.0.1,
        tt,
        here.is_so.1 c.requires.worked.latch c.requires.worked.done.holds.recorded ∙ c.requires.worked.freed_is,
      );
    }

pub returns : goal.returns
returns c =
    let place = c.args.latch.place in
    let seat = c.args.seat.now in
    let m : Mine = seat.me in
    let n : Mine = c.put_latch.new.self.me in
    let ds = c.args.deeds.now in
    let lowered = c.lower_flags.ensures.lowered.lowered in
    let low = lowered.1 in
    let put = c.put_latch.ensures.made in
    let whole = mine put ∙ ap (unlatched place []) low.4 in
    let left = subst (λ (x : Mine). Leaves place ds m x) (sym whole) (leaves place ds low.0 low.1 low.2 low.3 m) in
    record {
      left = record {
        visited = λ s came. (table_of put ∙ lowered.0 ∙ came.0, visits_left place s.me m n came.1 ds left);
        step = subst (λ (x : Mine). (e : StepRecord) × IsStepOf m x e × DidUnder place ds seat e) (sym whole) (first_step place ds low.0 low.1 low.2 low.3 m);
        once = visit_after false m c.lower_flags.new.seat.me n (within_lowered false m c.lower_flags.new.seat.me place ds low) place
            (visit_put false c.lower_flags.new.seat.me n place [] (mine put));
        back = subst (λ (x : Mine). PutsBack place m x) (sym whole) (puts_back place ds low.0 low.1 low.2 low.3 m);
      };
    }

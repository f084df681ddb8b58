-- What came of the wish at the place is told of the seat as it was before.
use Rattle.mdl_visits.proofs.Lemmas.{Bool, IsVisit, Mine, SeatState, StaysWithin, ap, blocked, rested, still_entered, subst, sym, visit_entered, ◌∙◌}
use Rattle.mdl_visits.proofs.calls.try_now.try_now.Goals as goal

pub enter-requires : goal.enter-requires
enter-requires g c = record { at = c.requires.may.at; wish = (c.args.kind, c.requires.may.wish, c.is_obtrusive.ensures) }

pub gain-requires : goal.gain-requires
gain-requires g c =
    let entered = c.enter.ensures.entered in
    record {
      entered = (c.args.place, entered.0, c.args.seat.now, entered.1);
      number = c.requires.number ∙ sym (ap (λ (m : Mine). m.0.next) entered.1.entered.1.inside.now);
    }

pub returns-in-Ok-None : goal.returns-in-Ok-None
returns-in-Ok-None g c =
    let entered = c.enter.ensures.entered in
    let done = c.in-Ok-None.ensures.done c.args.place entered.0 c.args.seat.now entered.1 in
    let once = c.in-Ok-None.ensures.once in
    record {
      granted = λ _. (rw c.in-Ok-None.field-0-is at done);
      blocked = λ never. absurd (cc);
      once = subst (λ (may : Bool). IsVisit c.args.place may c.args.seat.now.me c.gain.new.seat.me) c.is_obtrusive.ensures
          (visit_entered entered.1 c.is_obtrusive.result c.gain.new.seat c.enter.ensures.within (rw c.in-Ok-None.field-0-is at once));
      refused = tt;
    }

pub lower_flags_and_put-requires : goal.lower_flags_and_put-requires
lower_flags_and_put-requires g c =
    let entered = c.enter.ensures.entered in
    let done = c.in-Ok-Some.ensures.done c.args.place entered.0 c.args.seat.now entered.1 in
    record { worked = rested (still_entered (rw c.in-Ok-Some.field-0-is at done) entered.1) }

pub returns-in-Ok-Some : goal.returns-in-Ok-Some
returns-in-Ok-Some g c =
    let seat = c.args.seat.now in
    let entered = c.enter.ensures.entered in
    let done = c.in-Ok-Some.ensures.done c.args.place entered.0 seat entered.1 in
    let told = rw c.in-Ok-Some.field-0-is at done in
    let has = still_entered told entered.1 in
    let left = c.lower_flags_and_put.ensures.left in
    let now = c.lower_flags_and_put.new.seat in
    let within = subst (λ (x : SeatState). StaysWithin c.is_obtrusive.result seat.me x.me) (sym told.2) c.enter.ensures.within in
    record {
      granted = λ never. absurd (cc);
      blocked = λ _. blocked has now left.visited left.step;
      once = subst (λ (may : Bool). IsVisit c.args.place may seat.me now.me) c.is_obtrusive.ensures (visit_entered has c.is_obtrusive.result now within left.once);
      refused = tt;
    }

pub returns-in-Err : goal.returns-in-Err
returns-in-Err g c =
    let entered = c.enter.ensures.entered in
    record {
      granted = λ never. absurd (cc);
      blocked = λ never. absurd (cc);
      once = subst (λ (may : Bool). IsVisit c.args.place may c.args.seat.now.me c.gain.new.seat.me) c.is_obtrusive.ensures
          (visit_entered entered.1 c.is_obtrusive.result c.gain.new.seat c.enter.ensures.within c.in-Err.ensures.once);
      refused = (c.in-Err.ensures.done c.args.place entered.0 c.args.seat.now entered.1).1;
    }

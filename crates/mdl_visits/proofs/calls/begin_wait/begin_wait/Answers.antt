-- What came of the wish at the place is told of the seat as it was before.
use Rattle.mdl_visits.proofs.Lemmas.{Bool, IsNewWait, IsVisit, Mine, SeatState, StaysWithin, ap, as_refused, mine, still_entered, subst, sym, visit_entered, ◌∙◌}
use Rattle.mdl_visits.proofs.calls.begin_wait.begin_wait.Goals as goal

pub enter-requires : goal.enter-requires
enter-requires g c = record { at = c.requires.may.at; wish = (c.args.kind, c.requires.may.wish, c.is_obtrusive.ensures) }

pub gain-requires : goal.gain-requires
gain-requires g c =
    let entered = c.enter.ensures.entered in
    record {
      entered = (c.args.place, entered.0, c.args.seat.now, entered.1);
      number = c.requires.new.is_next ∙ sym (ap (λ (m : Mine). m.0.next) entered.1.entered.1.inside.now);
    }

pub returns-in-Ok-None : goal.returns-in-Ok-None
returns-in-Ok-None g c =
    let entered = c.enter.ensures.entered in
    let done = c.in-Ok-None.ensures.done c.args.place entered.0 c.args.seat.now entered.1 in
    let once = c.in-Ok-None.ensures.once in
    record {
      granted = λ _. (rw c.in-Ok-None.field-0-is at done);
      waiting = λ never. absurd (cc);
      once = subst (λ (may : Bool). IsVisit c.args.place may c.args.seat.now.me c.gain.new.seat.me) c.is_obtrusive.ensures
          (visit_entered entered.1 c.is_obtrusive.result c.gain.new.seat c.enter.ensures.within (rw c.in-Ok-None.field-0-is at once));
      refused = tt;
    }

pub enqueue-requires : goal.enqueue-requires
enqueue-requires g c =
    let entered = c.enter.ensures.entered in
    let done = c.in-Ok-Some.ensures.done c.args.place entered.0 c.args.seat.now entered.1 in
    let told = rw c.in-Ok-Some.field-0-is at done in
    let new = c.requires.new in
    let now = mine told.2 ∙ entered.1.entered.1.inside.now in
    record {
      entered = (c.args.place, c.enter.result.1.0, c.args.seat.now, still_entered told entered.1);
      new = subst (λ (m : Mine). IsNewWait c.args.number c.args.wait m.0) (sym now) (record { unfast = new.unfast; is_next = new.is_next; counts = new.counts });
    }

pub returns-in-Err-enqueue : goal.returns-in-Err-enqueue
returns-in-Err-enqueue g c =
    let seat = c.args.seat.now in
    let entered = c.enter.ensures.entered in
    let done = c.in-Ok-Some.ensures.done c.args.place entered.0 seat entered.1 in
    let told = rw c.in-Ok-Some.field-0-is at done in
    let has = still_entered told entered.1 in
    let now = c.enqueue.new.seat in
    let within = subst (λ (x : SeatState). StaysWithin c.is_obtrusive.result seat.me x.me) (sym told.2) c.enter.ensures.within in
    record {
      granted = λ never. absurd (cc);
      waiting = λ never. absurd (cc);
      once = subst (λ (may : Bool). IsVisit c.args.place may seat.me now.me) c.is_obtrusive.ensures (visit_entered has c.is_obtrusive.result now within c.in-Err-enqueue.ensures.once);
      refused = as_refused (c.in-Err-enqueue.ensures.done c.enter.result.1.0 c.args.place seat has);
    }

pub returns-in_default : goal.returns-in_default
returns-in_default g c =
    let seat = c.args.seat.now in
    let entered = c.enter.ensures.entered in
    let done = c.in-Ok-Some.ensures.done c.args.place entered.0 seat entered.1 in
    let told = rw c.in-Ok-Some.field-0-is at done in
    let has = still_entered told entered.1 in
    let now = c.enqueue.new.seat in
    let within = subst (λ (x : SeatState). StaysWithin c.is_obtrusive.result seat.me x.me) (sym told.2) c.enter.ensures.within in
    record {
      granted = λ never. absurd (cc);
      waiting = λ _. c.in_default.ensures.done c.enter.result.1.0 c.args.place seat has;
      once = subst (λ (may : Bool). IsVisit c.args.place may seat.me now.me) c.is_obtrusive.ensures (visit_entered has c.is_obtrusive.result now within c.in_default.ensures.once);
      refused = tt;
    }

pub returns-in-Err : goal.returns-in-Err
returns-in-Err g c =
    let entered = c.enter.ensures.entered in
    record {
      granted = λ never. absurd (cc);
      waiting = λ never. absurd (cc);
      once = subst (λ (may : Bool). IsVisit c.args.place may c.args.seat.now.me c.gain.new.seat.me) c.is_obtrusive.ensures
          (visit_entered entered.1 c.is_obtrusive.result c.gain.new.seat c.enter.ensures.within c.in-Err.ensures.once);
      refused = as_refused (c.in-Err.ensures.done c.args.place entered.0 c.args.seat.now entered.1).1;
    }

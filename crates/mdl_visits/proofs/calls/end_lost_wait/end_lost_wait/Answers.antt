-- The ticket is taken out of the list, and flags that told the lists tell them still.
use Rattle.mdl_visits.proofs.Lemmas.{AtItsTable, EndsLost, SeatState, ap, false, goes_by, mine, mine_without_wait, place_there, plain, refl, step_before, subst, sym, table_of, true, went_on, within_one, within_then, within_written, ℕ, ◌∙◌}
use Rattle.mdl_visits.proofs.WaitEndings.{asks_there, came_ended, has_ended, holds_less, may_cancel, shows_end, told_there, waits_there, withdrawn}
use Rattle.mdl_visits.proofs.calls.end_lost_wait.end_lost_wait.Goals as goal

pub end_lost-requires : goal.end_lost-requires
end_lost-requires g c =
    let ask = c.args.ask in
    let latch = c.await_latch-latch in
    let q = latch.result.place in
    let r = c.requires in
    let wrote = c.write_withdrawal-withdrawn in
    let w = wrote.new.self in
    let a = latch.ensures.arrives in
    let is = withdrawn ask a w wrote.result wrote.ensures.refused wrote.ensures.written wrote.ensures.unchanged in
    record {
      place = place_there q (table_of is) a.is_place;
      cancelled = (a.latch, may_cancel ask a w is r.lost.0 r.asks r.lost.1 r.lost.2);
      wait = (r.wait.0 ∙ sym (waits_there ask a w is), r.wait.1);
    }

pub lower_flags_and_reschedule-requires : goal.lower_flags_and_reschedule-requires
lower_flags_and_reschedule-requires g c =
    let ask = c.args.ask in
    let r = c.requires in
    let wrote = c.write_withdrawal-withdrawn in
    let w = wrote.new.self in
    let a = c.await_latch-latch.ensures.arrives in
    let is = withdrawn ask a w wrote.result wrote.ensures.refused wrote.ensures.written wrote.ensures.unchanged in
    let asks = asks_there ask a w is r.asks in
    let ended = c.end_lost.ensures.made ask r.lost.0 asks (told_there ask a w is r.lost.0 r.lost.1) in
    record { worked = (true, has_ended ask a w is r.lost.0 c.end_lost.new.self ended (c.end_lost.ensures.keeps ask a.latch _ asks (holds_less ask a w is))) }

pub returns : goal.returns
returns g c =
    let ask = c.args.ask in
    let s = c.args.seat.now in
    let r = c.requires in
    let wrote = c.write_withdrawal-withdrawn in
    let w = wrote.new.self in
    let a = c.await_latch-latch.ensures.arrives in
    let is = withdrawn ask a w wrote.result wrote.ensures.refused wrote.ensures.written wrote.ensures.unchanged in
    let asks = asks_there ask a w is r.asks in
    let ended = c.end_lost.ensures.made ask r.lost.0 asks (told_there ask a w is r.lost.0 r.lost.1) in
    let n = c.lower_flags_and_reschedule.new.seat in
    let there = came_ended ask a w is r.lost.0 c.end_lost.new.self ended c.end_lost.ensures.apart in
    let v = c.end_lost.new.self in
    let last = c.lower_flags_and_reschedule.ensures.left.step in
    record {
      ended = subst (λ (p : ℕ). AtItsTable s n (EndsLost s.table p)) a.at (c.lower_flags_and_reschedule.ensures.left.rescheduled (record s { me = mine_without_wait s.me }) there);
      once =
          let came : SeatState = c.await_latch-latch.new.seat in
          let on = within_written false came.me w.me c.await_latch-latch.result.place _ (mine is) in
          let ends = within_one false w.me v.me _ (ap (λ (x : SeatState). x.me.0.log) ended) (ap (λ (x : SeatState). x.me.0.directory) ended) (refl, plain false, refl) in
          went_on a v n (within_then false came.me w.me v.me on ends) c.lower_flags_and_reschedule.ensures.left.once;
      met = λ state told.
          let shown = shows_end ask a w is state v (c.end_lost.ensures.made ask state asks (told_there ask a w is state told)) in
          (shown.0, step_before s.me v.me n.me (goes_by v.me n.me last.0 last.1) shown.0 shown.1, shown.2);
    }

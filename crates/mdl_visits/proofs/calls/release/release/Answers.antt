-- The book that is met under the latch has the session's ticket, so it is taken out.
use Rattle.std.proofs.Common.{ℕ, true, [], ◌∷◌, ap, subst}
use Rattle.mdl_visits.proofs.Lemmas.{AtItsTable, Lose, SeatState, VisitsAndReschedules, booked, came_written, has_lost, lost, met_own, went_written}
use Rattle.mdl_visits.proofs.Losing.{there}
use Rattle.mdl_visits.proofs.calls.release.release.Goals as goal

pub lower_flags_and_reschedule-requires : goal.lower_flags_and_reschedule-requires
lower_flags_and_reschedule-requires g c =
    let number = c.args.number in
    let a = c.await_latch-latch.ensures.arrives in
    let out = lost a number c.requires.unwaited c.requires.held c.write_loss-gone.new.self c.write_loss-gone.result c.write_loss-gone.ensures.refused c.write_loss-gone.ensures.written in
    record { worked = (true, has_lost a number c.requires.unwaited c.requires.held c.write_loss-gone.new.self c.requires.known out) }

pub returns : goal.returns
returns g c =
    let number = c.args.number in
    let s = c.args.seat.now in
    let latch = c.await_latch-latch in
    let a = latch.ensures.arrives in
    let out = lost a number c.requires.unwaited c.requires.held c.write_loss-gone.new.self c.write_loss-gone.result c.write_loss-gone.ensures.refused c.write_loss-gone.ensures.written in
    let w = c.write_loss-gone.new.self in
    let n = c.lower_flags_and_reschedule.new.seat in
    let came = came_written a (booked latch.new.seat.me.0.number (Lose number) a.latch.book) w out in
    record {
      released = subst (λ (p : ℕ). AtItsTable s n (VisitsAndReschedules s.table p (Lose number ∷ []))) a.at
          (c.lower_flags_and_reschedule.ensures.left.rescheduled s came);
      step = met_own a number (Lose number ∷ []) w n (there a number c.requires.unwaited c.requires.held)
          came (ap (λ (x : SeatState). x.me.0.latches) out) c.lower_flags_and_reschedule.ensures.left.step;
      once = went_written a _ w n out c.lower_flags_and_reschedule.ensures.left.once;
    }

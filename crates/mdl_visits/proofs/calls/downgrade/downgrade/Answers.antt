-- The book that is met under the latch has the session's ticket, which covers the mode, so the mode is written.
use Rattle.std.proofs.Common.{ℕ, true, [], ◌∷◌, ap, subst, is_some}
use Rattle.mdl_visits.proofs.Lemmas.{Alter, AtItsTable, SeatState, VisitsAndReschedules, booked, came_written, downgrade-covered, has_altered, lowered_to, met_own, there, went_written}
use Rattle.mdl_visits.proofs.calls.downgrade.downgrade.Goals as goal

pub lower_flags_and_reschedule-requires : goal.lower_flags_and_reschedule-requires
lower_flags_and_reschedule-requires g c =
    let held = c.args.held in
    let mode = c.args.mode in
    let wrote = c.write_mode-altered in
    let r = c.requires in
    let a = c.await_latch-latch.ensures.arrives in
    let strong = downgrade-covered held.mode mode r.weaker in
    let out = lowered_to held a r.unwaited r.held mode r.fits strong wrote.new.self wrote.result (wrote.ensures.refused a.latch.book a.holds.carried) (wrote.ensures.written a.latch.book a.holds.carried) in
    record { worked = (true, has_altered held a r.unwaited r.held mode r.fits strong wrote.new.self r.weaker out) }

pub returns : goal.returns
returns g c =
    let held = c.args.held in
    let mode = c.args.mode in
    let s = c.args.seat.now in
    let latch = c.await_latch-latch in
    let arrive = latch.new.seat in
    let wrote = c.write_mode-altered in
    let r = c.requires in
    let a = latch.ensures.arrives in
    let strong = downgrade-covered held.mode mode r.weaker in
    let out = lowered_to held a r.unwaited r.held mode r.fits strong wrote.new.self wrote.result (wrote.ensures.refused a.latch.book a.holds.carried) (wrote.ensures.written a.latch.book a.holds.carried) in
    let came = came_written a (booked arrive.me.0.number (Alter held.number mode) a.latch.book) wrote.new.self out in
    let n = c.lower_flags_and_reschedule.new.seat in
    record {
      downgraded = subst (λ (p : ℕ). AtItsTable s n (VisitsAndReschedules s.table p (Alter held.number mode ∷ []))) a.at (c.lower_flags_and_reschedule.ensures.left.rescheduled s came);
      step = met_own a held.number (Alter held.number mode ∷ []) wrote.new.self n (ap is_some (there held a r.unwaited r.held))
          came (ap (λ (x : SeatState). x.me.0.latches) out) c.lower_flags_and_reschedule.ensures.left.step;
      once = went_written a _ wrote.new.self n out c.lower_flags_and_reschedule.ensures.left.once;
    }

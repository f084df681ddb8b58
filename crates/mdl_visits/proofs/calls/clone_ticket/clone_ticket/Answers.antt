-- The book that is met under the latch has the session's ticket, which covers the mode, so only want of room keeps the second one out.
use Rattle.std.proofs.Common.{ℕ, false, [], ◌∷◌, ap, sym, subst, ◌∙◌, is_some}
use Rattle.mdl_visits.proofs.Lemmas.{AtItsTable, CameTo, Gain, HasWorked, SeatState, Visits, booked, came_written, has_gained, has_rested, held_at, idle_waits_not, met_full, met_own, no_room, there, went_same, went_written}
use Rattle.mdl_visits.proofs.calls.clone_ticket.clone_ticket.Goals as goal

pub lower_flags_and_put-requires : goal.lower_flags_and_put-requires
lower_flags_and_put-requires g c =
    let held = c.args.held in
    let s = c.args.seat.now in
    let r = c.requires in
    let a = c.await_latch-latch.ensures.arrives in
    record {
      worked = has_gained held a (idle_waits_not s.me.0 held.number r.may.idle) r.may.held c.args.mode r.may.fits r.may.covered c.args.number c.write_gain.new.self r.may.idle r.may.next
          (c.in-Ok.ensures.written a.latch.book a.holds.carried);
    }

pub lower_flags_and_put-requires-in-Err : goal.lower_flags_and_put-requires-in-Err
lower_flags_and_put-requires-in-Err g c =
    let latch = c.await_latch-latch in
    let q = latch.result.place in
    let a = latch.ensures.arrives in
    record { worked = subst (HasWorked q [] false) (sym c.in-Err.ensures.unchanged) (has_rested a) }

pub returns-in-Ok : goal.returns-in-Ok
returns-in-Ok g c =
    let held = c.args.held in
    let s = c.args.seat.now in
    let latch = c.await_latch-latch in
    let r = c.requires in
    let w = c.write_gain.new.self in
    let n = c.lower_flags_and_put.new.seat in
    let a = latch.ensures.arrives in
    let out = c.in-Ok.ensures.written a.latch.book a.holds.carried in
    let came = came_written a (booked latch.new.seat.me.0.number (Gain c.args.number c.args.mode) a.latch.book) w out in
    record {
      cloned = subst (λ (p : ℕ). AtItsTable s n (Visits p (Gain c.args.number c.args.mode ∷ []))) a.at (c.lower_flags_and_put.ensures.left.visited s (came.0, came.1));
      step = met_own a held.number (Gain c.args.number c.args.mode ∷ []) w n (ap is_some (there held a (idle_waits_not s.me.0 held.number r.may.idle) r.may.held))
          came (ap (λ (x : SeatState). x.me.0.latches) out) c.lower_flags_and_put.ensures.left.step;
      once = went_written a _ w n out c.lower_flags_and_put.ensures.left.once;
      refused = tt;
    }

pub returns-in-Err : goal.returns-in-Err
returns-in-Err g c =
    let held = c.args.held in
    let s = c.args.seat.now in
    let latch = c.await_latch-latch in
    let q = latch.result.place in
    let r = c.requires in
    let w = c.write_gain.new.self in
    let n = c.lower_flags_and_put-in-Err.new.seat in
    let a = latch.ensures.arrives in
    let same = c.in-Err.ensures.unchanged in
    let came = subst (CameTo q s) (sym same) a.came in
    let latches = ap (λ (x : SeatState). x.me.0.latches) same in
    let unwaited = idle_waits_not s.me.0 held.number r.may.idle in
    let met = met_own a held.number [] w n (ap is_some (there held a unwaited r.may.held)) came latches c.lower_flags_and_put-in-Err.ensures.left.step in
    record {
      cloned = tt;
      step = (met.0, met.1, met.2, tt);
      once = went_same a w n same c.lower_flags_and_put-in-Err.ensures.left.once;
      refused = (
        subst (λ (p : ℕ). AtItsTable s n (Visits p [])) a.at (c.lower_flags_and_put-in-Err.ensures.left.visited s (came.0, came.1)),
        met_full held.place s q w n a.at came.1 a.latch (ap (held_at q) latches ∙ a.holds.recorded) [] c.lower_flags_and_put-in-Err.ensures.left.step c.in-Err.cause
            (no_room held a unwaited r.may.held c.args.mode r.may.fits r.may.covered _ c.args.number c.in-Err.cause (c.in-Err.ensures.refused a.latch.book a.holds.carried)),
      );
    }

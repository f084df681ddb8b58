-- The book that is met under the latch has both tickets, so the one is written in the mode of the other, and this is taken out.
use Rattle.std.proofs.Common.{ℕ, List, [], ◌∷◌, ap, subst, is_some}
use Rattle.mdl_visits.proofs.Lemmas.{Alter, AtItsTable, Deed, Lose, SeatState, Visits, booked, came_written, meets_own, met_here, went_written}
use Rattle.mdl_visits.proofs.Uniting.{carries_changed, changed, first, has_united, second, united}
use Rattle.mdl_visits.proofs.calls.merge.merge.Goals as goal

pub write_loss-gone-requires : goal.write_loss-gone-requires
write_loss-gone-requires g c =
    let kept = c.args.kept in
    let gone = c.args.gone in
    let r = c.requires in
    let wrote = c.write_mode-altered in
    let a = c.await_latch-latch.ensures.arrives in
    let refused = wrote.ensures.refused a.latch.book a.holds.carried in
    let written = wrote.ensures.written a.latch.book a.holds.carried in
    record { carried = (changed kept gone a r.may.here r.may.idle r.may.two r.may.held, carries_changed kept gone a r.may.here r.may.idle r.may.two r.may.held wrote.new.self wrote.result refused written) }

pub lower_flags_and_put-requires : goal.lower_flags_and_put-requires
lower_flags_and_put-requires g c =
    let kept = c.args.kept in
    let gone = c.args.gone in
    let r = c.requires in
    let wrote = c.write_mode-altered in
    let a = c.await_latch-latch.ensures.arrives in
    let refused = wrote.ensures.refused a.latch.book a.holds.carried in
    let written = wrote.ensures.written a.latch.book a.holds.carried in
    let w = c.write_loss-gone.new.self in
    let out = united kept gone a r.may.here r.may.idle r.may.two r.may.held wrote.new.self wrote.result refused written w c.write_loss-gone.result c.write_loss-gone.ensures.refused c.write_loss-gone.ensures.written in
    record { worked = has_united kept gone a r.may.here r.may.idle r.may.two r.may.held w r.known r.may.covered out }

pub returns : goal.returns
returns g c =
    let kept = c.args.kept in
    let gone = c.args.gone in
    let s = c.args.seat.now in
    let latch = c.await_latch-latch in
    let came = latch.new.seat in
    let r = c.requires in
    let wrote = c.write_mode-altered in
    let a = latch.ensures.arrives in
    let refused = wrote.ensures.refused a.latch.book a.holds.carried in
    let written = wrote.ensures.written a.latch.book a.holds.carried in
    let w = c.write_loss-gone.new.self in
    let out = united kept gone a r.may.here r.may.idle r.may.two r.may.held wrote.new.self wrote.result refused written w c.write_loss-gone.result c.write_loss-gone.ensures.refused c.write_loss-gone.ensures.written in
    let n = c.lower_flags_and_put.new.seat in
    let ds : List Deed = Alter kept.number gone.mode ∷ Lose gone.number ∷ [] in
    let there = came_written a (booked came.me.0.number (Lose gone.number) (changed kept gone a r.may.here r.may.idle r.may.two r.may.held)) w out in
    let met = met_here a ds w n there (ap (λ (x : SeatState). x.me.0.latches) out) c.lower_flags_and_put.ensures.left.step in
    let old = meets_own a kept.number met.0 (ap is_some (first kept gone a r.may.here r.may.idle r.may.two r.may.held)) met.2 met.3 in
    let new = meets_own a gone.number met.0 (ap is_some (second kept gone a r.may.here r.may.idle r.may.two r.may.held)) met.2 met.3 in
    record {
      merged = subst (λ (p : ℕ). AtItsTable s n (Visits p ds)) a.at (c.lower_flags_and_put.ensures.left.visited s (there.0, there.1));
      step = (met.0, met.1, old, new, met.4);
      once = went_written a _ w n out c.lower_flags_and_put.ensures.left.once;
    }

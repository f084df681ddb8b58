-- The latch was taken at once, or after it was found taken.
use Rattle.mdl_visits.proofs.Lemmas.{arrives_later, lingers_none, may_still, refl, taken_after}
use Rattle.mdl_visits.proofs.latches.await_latch.Goals as goal

pub await_taken_latch-requires : goal.await_taken_latch-requires
await_taken_latch-requires g c =
    let met = c.in-None.ensures.taken in
    record { at = may_still c.args.place met.0 c.args.seat.now c.take_latch.new.self met.2 c.requires.at }

pub returns-in-Some : goal.returns-in-Some
returns-in-Some g c =
    let met = c.in-Some.ensures.taken in
    let told = met.1 in
    record {
      arrives = taken_after c.args.place c.args.seat.now c.args.seat.now c.requires.at refl (lingers_none c.args.seat.now.me) c.in-Some.latch.place c.take_latch.new.self met.0 told.0
          told.1 told.2 told.3;
    }

pub returns-in-None : goal.returns-in-None
returns-in-None g c =
    let met = c.in-None.ensures.taken in
    record {
      arrives = arrives_later c.args.place met.0 c.args.seat.now c.take_latch.new.self met.2 c.await_taken_latch.result.place c.await_taken_latch.new.seat c.await_taken_latch.ensures.arrives;
    }

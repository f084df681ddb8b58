-- The latch was taken after some steps that only met it.
use Rattle.mdl_visits.proofs.Lemmas.{lingers_one, mine, place_there, table_of, taken_after, ◌∙◌}
use Rattle.mdl_visits.proofs.latches.await_taken_latch.Goals as goal

pub take_latch-requires-clause-place : goal.take_latch-requires-clause-place
take_latch-requires-clause-place g c = place_there c.args.place c.loop.invariant.table c.requires.at.is_place

pub returns-in-Some-take_latch : goal.returns-in-Some-take_latch
returns-in-Some-take_latch g c =
    let met = c.in-Some-take_latch.ensures.taken in
    let told = met.1 in
    record {
      arrives = taken_after c.args.place c.args.seat.now c.loop.seat c.requires.at c.loop.invariant.table c.loop.invariant.steps c.in-Some-take_latch.latch.place c.take_latch.new.self met.0 told.0
          told.1 told.2 told.3;
    }

pub loop-preserved : goal.loop-preserved
loop-preserved g c =
    let met = c.in_default.ensures.taken in
    let inv = c.loop.invariant in
    record {
      next = tt;
      finite = tt;
      table = table_of met.2 ∙ inv.table;
      steps = lingers_one c.args.place met.0 c.args.seat.now.me c.loop.seat.me c.take_latch.new.self.me inv.steps (mine met.2);
    }

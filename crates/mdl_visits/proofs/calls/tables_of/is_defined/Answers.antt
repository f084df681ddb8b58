-- What was found stood in the book that was met under the latch.
use Rattle.mdl_visits.proofs.Lemmas.{MeetsDefinition, SeatState, as_reads, back_steps, carried_there, held_at-first, may_put, no_steps, refl, sym}
use Rattle.mdl_visits.proofs.Gathering.{gives_back}
use Rattle.mdl_visits.proofs.calls.tables_of.is_defined.Goals as goal

pub has_definition-defined-requires : goal.has_definition-defined-requires
has_definition-defined-requires g c =
    let arrives = c.await_latch-latch.ensures.arrives in record { carried = (arrives.latch.book, arrives.holds.carried) }

pub put_latch-requires-clause-put : goal.put_latch-requires-clause-put
put_latch-requires-clause-put g c =
    let latch = c.await_latch-latch in
    let asked : SeatState = c.has_definition-defined.new.self in
    may_put c.args.place latch.result.place c.args.seat.now latch.new.seat asked latch.ensures.arrives.at latch.ensures.arrives.taken latch.ensures.arrives.came.0 c.has_definition-defined.ensures.same
    asked (as_reads asked asked (refl, no_steps asked.me))

pub returns-clause-steps : goal.returns-clause-steps
returns-clause-steps g c =
    let latch = c.await_latch-latch in
    let asked : SeatState = c.has_definition-defined.new.self in
    back_steps c.args.place latch.result.place c.args.seat.now latch.new.seat asked latch.ensures.arrives.at latch.ensures.arrives.taken latch.ensures.arrives.came.0 c.has_definition-defined.ensures.same
    asked (as_reads asked asked (refl, no_steps asked.me)) c.put_latch.new.self c.put_latch.ensures.made c.requires.at.rising refl refl

pub returns-clause-met : goal.returns-clause-met
returns-clause-met g c =
    let latch = c.await_latch-latch in
    let taken = latch.ensures.arrives.taken in
    let asked : SeatState = c.has_definition-defined.new.self in
    let carried = carried_there c.args.place latch.result.place c.args.seat.now latch.new.seat latch.new.seat latch.ensures.arrives.at taken latch.ensures.arrives.came.0 refl in
    gives_back c.args.place latch.result.place c.args.seat.now latch.new.seat asked latch.ensures.arrives.at taken latch.ensures.arrives.came.0 c.has_definition-defined.ensures.same
    asked (as_reads asked asked (refl, no_steps asked.me)) c.put_latch.new.self c.put_latch.ensures.made c.requires.at.rising
    (MeetsDefinition c.args.place c.args.seat.now.me.0.number c.has_definition-defined.result) (record {
      kind = refl;
      word = refl;
      freed = refl;
      latch = taken.0;
      held = held_at-first c.args.place taken.0 c.args.seat.now.me.0.latches taken.1.here;
      stands = sym (c.has_definition-defined.ensures.told taken.0.book carried);
    })

-- What was changed stood in the book that was met under the latch.
use Rattle.mdl_visits.proofs.Lemmas.{SeatState, [], as_reads, back_steps, carried_there, false, inside_there, mine, no_steps, place_there, redefining, refl, standing_fault, table_of, visit_put, went_same, ◌∙◌}
use Rattle.mdl_visits.proofs.Changing.{changed, has_redefined, may_put_changed, no_fault, refused, went_changed}
use Rattle.mdl_visits.proofs.calls.change_definition.change_definition.Goals as goal

pub write_change-requires : goal.write_change-requires
write_change-requires g c =
    let arrives = c.await_latch-latch.ensures.arrives in record { carried = (arrives.latch.book, arrives.holds.carried) }

pub write_version-requires : goal.write_version-requires
write_version-requires g c =
    let place = c.args.place in
    let change = c.args.change.now in
    let a : SeatState = c.args.seat.now in
    let latch = c.await_latch-latch in
    let b : SeatState = latch.new.seat in
    let wrote : SeatState = c.write_change.new.self in
    let taken = latch.ensures.arrives.taken in
    let carried = carried_there place latch.result.place a b b latch.ensures.arrives.at taken latch.ensures.arrives.came.0 refl in
    let done = c.in-Ok.ensures.written taken.0.book carried in
    let allowed = no_fault (standing_fault taken.0.book.key.namespace change taken.0.book.standing) c.in-Ok.version (c.in-Ok.ensures.refused taken.0.book carried) in
    record {
      place = place_there latch.result.place (table_of done.0) latch.ensures.arrives.is_place;
      written = (taken.0, change, has_redefined place latch.result.place change a b wrote latch.ensures.arrives.at taken latch.ensures.arrives.came.0 done.0 allowed c.requires.apart c.requires.held);
    }

pub put_latch-requires : goal.put_latch-requires
put_latch-requires g c =
    let place = c.args.place in
    let change = c.args.change.now in
    let a : SeatState = c.args.seat.now in
    let latch = c.await_latch-latch in
    let b : SeatState = latch.new.seat in
    let wrote : SeatState = c.write_change.new.self in
    let taken = latch.ensures.arrives.taken in
    let carried = carried_there place latch.result.place a b b latch.ensures.arrives.at taken latch.ensures.arrives.came.0 refl in
    let done = c.in-Ok.ensures.written taken.0.book carried in
    let allowed = no_fault (standing_fault taken.0.book.key.namespace change taken.0.book.standing) c.in-Ok.version (c.in-Ok.ensures.refused taken.0.book carried) in
    let has = has_redefined place latch.result.place change a b wrote latch.ensures.arrives.at taken latch.ensures.arrives.came.0 done.0 allowed c.requires.apart c.requires.held in
    let published = c.write_version.ensures.made (redefining change taken.0.book) has.holds.carried in
    record {
      place = place_there latch.result.place (table_of published ∙ table_of done.0) latch.ensures.arrives.is_place;
      put = may_put_changed place latch.result.place change a b wrote latch.ensures.arrives.at taken latch.ensures.arrives.came.0 done.0 allowed c.requires.apart c.requires.held
          c.write_version.new.self c.write_version.ensures.keeps;
    }

pub returns-in-Ok-clause-changed : goal.returns-in-Ok-clause-changed
returns-in-Ok-clause-changed g c =
    let place = c.args.place in
    let change = c.args.change.now in
    let a : SeatState = c.args.seat.now in
    let latch = c.await_latch-latch in
    let b : SeatState = latch.new.seat in
    let wrote : SeatState = c.write_change.new.self in
    let taken = latch.ensures.arrives.taken in
    let carried = carried_there place latch.result.place a b b latch.ensures.arrives.at taken latch.ensures.arrives.came.0 refl in
    let done = c.in-Ok.ensures.written taken.0.book carried in
    let allowed = no_fault (standing_fault taken.0.book.key.namespace change taken.0.book.standing) c.in-Ok.version (c.in-Ok.ensures.refused taken.0.book carried) in
    let has = has_redefined place latch.result.place change a b wrote latch.ensures.arrives.at taken latch.ensures.arrives.came.0 done.0 allowed c.requires.apart c.requires.held in
    changed place latch.result.place change a b wrote latch.ensures.arrives.at taken latch.ensures.arrives.came.0 done.0 allowed c.requires.apart c.requires.held
    c.write_version.new.self c.put_latch.new.self (c.write_version.ensures.made (redefining change taken.0.book) has.holds.carried) c.put_latch.ensures.made (inside_there latch.ensures.arrives) c.in-Ok.version done.1

pub returns-in-Ok-clause-once : goal.returns-in-Ok-clause-once
returns-in-Ok-clause-once g c =
    let place = c.args.place in
    let change = c.args.change.now in
    let a : SeatState = c.args.seat.now in
    let latch = c.await_latch-latch in
    let b : SeatState = latch.new.seat in
    let wrote : SeatState = c.write_change.new.self in
    let taken = latch.ensures.arrives.taken in
    let carried = carried_there place latch.result.place a b b latch.ensures.arrives.at taken latch.ensures.arrives.came.0 refl in
    let done = c.in-Ok.ensures.written taken.0.book carried in
    let allowed = no_fault (standing_fault taken.0.book.key.namespace change taken.0.book.standing) c.in-Ok.version (c.in-Ok.ensures.refused taken.0.book carried) in
    let has = has_redefined place latch.result.place change a b wrote latch.ensures.arrives.at taken latch.ensures.arrives.came.0 done.0 allowed c.requires.apart c.requires.held in
    went_changed latch.ensures.arrives _ _ wrote c.write_version.new.self c.put_latch.new.self done.0
    (c.write_version.ensures.made (redefining change taken.0.book) has.holds.carried) c.put_latch.ensures.made

pub returns-in-Err-clause-once : goal.returns-in-Err-clause-once
returns-in-Err-clause-once g c =
    let latch = c.await_latch-latch in
    let wrote : SeatState = c.write_change.new.self in
    went_same latch.ensures.arrives wrote c.put_latch-in-Err.new.self c.in-Err.ensures.unchanged
    (visit_put false wrote.me c.put_latch-in-Err.new.self.me latch.result.place [] (mine c.put_latch-in-Err.ensures.made))

pub returns-in-Err-clause-unchanged : goal.returns-in-Err-clause-unchanged
returns-in-Err-clause-unchanged g c =
    let latch = c.await_latch-latch in
    let wrote : SeatState = c.write_change.new.self in
    let steps = back_steps c.args.place latch.result.place c.args.seat.now latch.new.seat wrote latch.ensures.arrives.at latch.ensures.arrives.taken latch.ensures.arrives.came.0 c.in-Err.ensures.unchanged
    wrote (as_reads wrote wrote (refl, no_steps wrote.me)) c.put_latch-in-Err.new.self c.put_latch-in-Err.ensures.made c.requires.at.rising refl refl in
    (steps.0, record { made = steps.1.0; now = steps.1.1; did = steps.1.2 })

pub returns-in-Err-clause-refused : goal.returns-in-Err-clause-refused
returns-in-Err-clause-refused g c =
    let latch = c.await_latch-latch in
    let a : SeatState = c.args.seat.now in
    let b : SeatState = latch.new.seat in
    let book = latch.ensures.arrives.taken.0.book in
    let carried = carried_there c.args.place latch.result.place a b b latch.ensures.arrives.at latch.ensures.arrives.taken latch.ensures.arrives.came.0 refl in
    refused c.args.place latch.result.place c.args.change.now a b c.write_change.new.self latch.ensures.arrives.at latch.ensures.arrives.taken c.put_latch-in-Err.new.self latch.ensures.arrives.came.0
    c.in-Err.ensures.unchanged c.put_latch-in-Err.ensures.made c.requires.at.rising c.in-Err.why (c.in-Err.ensures.refused book carried) (c.in-Err.ensures.drop book carried)

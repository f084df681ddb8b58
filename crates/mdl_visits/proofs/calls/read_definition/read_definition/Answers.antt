-- What was read stood in the book that was met under the latch.
use Rattle.std.proofs.Common.{◌≡◌, ℕ, false, [], refl, sym, ap, ◌∙◌, subst}
use Rattle.mdl_visits.proofs.Lemmas.{Follows, Mine, SeatState, VersionedDefinition, as_reads, back_steps, carried_there, inside_there, may_put, mine, no_steps, read_and_put, table_of, visit_by, visit_put, went_same}
use Rattle.mdl_visits.proofs.Reading.{follows, learns, meets_standing, quiet_read}
use Rattle.mdl_visits.proofs.calls.read_definition.read_definition.Goals as goal

pub standing-requires : goal.standing-requires
standing-requires g c =
    let arrives = c.await_latch-latch.ensures.arrives in record { carried = (arrives.latch.book, arrives.holds.carried) }

pub put_latch_reading-requires-clause-put : goal.put_latch_reading-requires-clause-put
put_latch_reading-requires-clause-put g c =
    let latch = c.await_latch-latch in
    let asked : SeatState = c.standing.new.self in
    may_put c.args.place latch.result.place c.args.seat.now latch.new.seat asked latch.ensures.arrives.at latch.ensures.arrives.taken latch.ensures.arrives.came.0 c.standing.ensures.same
    asked (as_reads asked asked (refl, no_steps asked.me))

pub put_latch-requires-clause-put : goal.put_latch-requires-clause-put
put_latch-requires-clause-put g c =
    let latch = c.await_latch-latch in
    let asked : SeatState = c.standing.new.self in
    may_put c.args.place latch.result.place c.args.seat.now latch.new.seat asked latch.ensures.arrives.at latch.ensures.arrives.taken latch.ensures.arrives.came.0 c.standing.ensures.same
    asked (as_reads asked asked (refl, no_steps asked.me))

pub returns-in-Ok : goal.returns-in-Ok
returns-in-Ok g c =
    let place = c.args.place in
    let a : SeatState = c.args.seat.now in
    let latch = c.await_latch-latch in
    let b : SeatState = latch.new.seat in
    let asked : SeatState = c.standing.new.self in
    let went : SeatState = c.put_latch_reading.new.self in
    let taken = latch.ensures.arrives.taken in
    let h = taken.0 in
    let same = c.standing.ensures.same in
    let carried = carried_there place latch.result.place a b b latch.ensures.arrives.at taken latch.ensures.arrives.came.0 refl in
    let told : c.in-Ok.standing ≡ h.book.standing = c.in-Ok.ensures.told h.book carried in
    let put = c.put_latch_reading.ensures.made h.book (carried_there place latch.result.place a b asked latch.ensures.arrives.at taken latch.ensures.arrives.came.0 same) in
    let read : went.me ≡ read_and_put place c.in-Ok.standing b.me =
    mine put ∙ ap (λ (m : Mine). read_and_put latch.result.place h.book.standing m) (mine same)
    ∙ ap (λ (q : ℕ). read_and_put q h.book.standing b.me) latch.ensures.arrives.at ∙ ap (λ (s : VersionedDefinition). read_and_put place s b.me) (sym told) in record {
      learnt = (
        learns place c.in-Ok.standing a.me b.me went.me (inside_there latch.ensures.arrives) read,
        meets_standing place c.in-Ok.standing a.me b.me went.me (inside_there latch.ensures.arrives) read h a.me.0.number refl taken.1 taken.2.recorded told,
      );
      follows = subst (λ (s : VersionedDefinition). Follows place s a.me) (sym told) (follows taken.1);
      unchanged = tt;
      once = went_same latch.ensures.arrives asked went same (visit_by false asked.me went.me latch.result.place _ (ap (λ (x : SeatState). x.me.0.log) put) refl refl refl);
      quiet = (table_of put ∙ table_of same ∙ latch.ensures.arrives.came.0, quiet_read place c.in-Ok.standing a.me b.me went.me (inside_there latch.ensures.arrives) read h taken.3.0 taken.3.2 taken.3.1);
    }

pub returns-in-Err : goal.returns-in-Err
returns-in-Err g c =
    let latch = c.await_latch-latch in
    let asked : SeatState = c.standing.new.self in
    let steps = back_steps c.args.place latch.result.place c.args.seat.now latch.new.seat asked latch.ensures.arrives.at latch.ensures.arrives.taken latch.ensures.arrives.came.0 c.standing.ensures.same
    asked (as_reads asked asked (refl, no_steps asked.me)) c.put_latch.new.self c.put_latch.ensures.made c.requires.at.rising refl refl in
    record {
      learnt = tt;
      follows = tt;
      unchanged = record { made = steps.1.0; now = steps.1.1; did = steps.1.2 };
      once = went_same latch.ensures.arrives asked c.put_latch.new.self c.standing.ensures.same
          (visit_put false asked.me c.put_latch.new.self.me latch.result.place [] (mine c.put_latch.ensures.made));
      quiet = (steps.0, (steps.1.0, ap (λ (m : Mine). m.0.log) steps.1.1, steps.1.3));
    }

-- The wait was read unsettled and its grant tried, or it was read settled. Nothing is done for a session that the table doesn't have.
use Rattle.mdl_visits.proofs.Lemmas.{HasJustMet, Holds, IsGrantedFrom, LatchRecord, Mine, ReadWait, ReschedulesInTurn, TableId, holds_met, inl, is_settled, is_tried, just_met, mine, place_there, refl, rescheduled_none, rescheduled_tried, rescheduling_missed, subst, sym, table_of, ◌∙◌}
use Rattle.mdl_visits.proofs.grant_waiters.grant_waiter.Goals as goal

pub grant_unsettled-requires-clause-here : goal.grant_unsettled-requires-clause-here
grant_unsettled-requires-clause-here c =
    let id = c.args.seat.now.table in
    let place = c.args.latch.now.place in
    let session = c.args.ticket.session in
    let m : Mine = c.args.seat.now.me in
    let a : Mine = c.read_wait-wait.new.self.me in
    let word = c.read_wait-wait.result.0 in
    let read = mine c.read_wait-wait.ensures.made in
    let here = c.requires.here in
    record {
      is_place = place_there place (table_of c.read_wait-wait.ensures.made) here.is_place;
      latch = here.latch;
      holds = holds_met ReadWait id.slots place session word here.latch m a read here.holds;
      is_so = (
        here.is_so,
        subst (λ (t : TableId). HasJustMet t.slots place session here.latch a) (sym (table_of c.read_wait-wait.ensures.made))
            (just_met ReadWait (inl refl) id place session c.args.ticket.number word here.latch m a here.holds here.is_so.0 read refl),
      );
    }

pub returns-then-state-eq-UNSETTLED : goal.returns-then-state-eq-UNSETTLED
returns-then-state-eq-UNSETTLED c =
    let id = c.args.seat.now.table in
    let place = c.args.latch.now.place in
    let session = c.args.ticket.session in
    let number = c.args.ticket.number in
    let m : Mine = c.args.seat.now.me in
    let a : Mine = c.read_wait-wait.new.self.me in
    let b : Mine = c.grant_unsettled.new.seat.me in
    let word = c.read_wait-wait.result.0 in
    let here = c.requires.here in
    let made = c.read_wait-wait.ensures.made in
    let tried = subst (λ (t : TableId). (g : LatchRecord) → Holds place g g.book a → IsGrantedFrom t.slots place session number word g a b) (table_of made) c.grant_unsettled.ensures.granted in
    let in_turn = subst (λ (t : TableId). ReschedulesInTurn t place session number a b) (table_of made) c.grant_unsettled.ensures.in_turn.1 in
    record {
      tried = is_tried ReadWait (inl refl) id place session number word here.latch m a here.holds here.is_so.0 (mine made) b (sym c.state.ensures ∙ c.if-state-eq-UNSETTLED.true) tried;
      in_turn = (
        c.grant_unsettled.ensures.in_turn.0 ∙ table_of made,
        rescheduled_tried ReadWait (inl refl) id place session number word here.latch m a here.holds here.is_so.0 (mine made) b c.read_wait-wait.ensures.own in_turn,
      );
    }

pub returns-else-state-eq-UNSETTLED : goal.returns-else-state-eq-UNSETTLED
returns-else-state-eq-UNSETTLED c =
    let id = c.args.seat.now.table in
    let place = c.args.latch.now.place in
    let m : Mine = c.args.seat.now.me in
    let a : Mine = c.read_wait-wait.new.self.me in
    let word = c.read_wait-wait.result.0 in
    let here = c.requires.here in
    let made = c.read_wait-wait.ensures.made in
    record {
      tried = is_settled ReadWait (inl refl) id place c.args.ticket.session c.args.ticket.number word here.latch m a here.holds here.is_so.0 (mine made) (λ open_. c.if-state-eq-UNSETTLED.false (c.state.ensures ∙ open_));
      in_turn = (table_of made, rescheduling_missed ReadWait (inl refl) id place c.args.ticket.session c.args.ticket.number word here.latch m a here.holds here.is_so.0 (mine made) c.read_wait-wait.ensures.own);
    }

pub returns-then-not-has_session-clause-in_turn : goal.returns-then-not-has_session-clause-in_turn
returns-then-not-has_session-clause-in_turn c =
    (refl, λ start h has looked. rescheduled_none c.args.seat.now.table c.args.latch.now.place start h.book c.args.seat.now.me has.carried)

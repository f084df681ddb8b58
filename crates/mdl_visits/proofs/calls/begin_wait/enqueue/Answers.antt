-- The ticket is written, the wait opened and the latch given back, or there was no room.
use Rattle.std.proofs.Common.{◌+◌, false, [], sym, ap, subst, ◌∙◌}
use Rattle.mdl_visits.proofs.Lemmas.{HasWorked, SeatState, VisitsOnce, entered_holds, full, place_there, refused, rested, table_of}
use Rattle.mdl_visits.proofs.WaitOpenings.{begins, visit_opened, wish_opens, wish_puts}
use Rattle.mdl_visits.proofs.calls.begin_wait.enqueue.Goals as goal

pub write_wish-requires : goal.write_wish-requires
write_wish-requires c =
    let has = c.requires.entered in
    record { carried = (has.3.entered.1.found.book, (entered_holds has.3).carried) }

pub lower_flags_and_put-requires : goal.lower_flags_and_put-requires
lower_flags_and_put-requires c =
    let has = c.requires.entered in
    record { worked = subst (HasWorked c.args.latch.place [] false) (sym c.in-Err.ensures.unchanged) (rested has.3) }

pub open_wait-requires : goal.open_wait-requires
open_wait-requires c =
    let has = c.requires.entered in
    let wrote = c.in_default.ensures.written has.3.entered.1.found.book (entered_holds has.3).carried in
    record {
      place = place_there c.args.latch.place (table_of wrote) has.3.is_place;
      opened = (_, wish_opens has.3 c.args.number c.requires.new.is_next c.write_wish.new.self wrote c.requires.new.unfast);
      wait = (c.requires.new.counts.0 ∙ sym (ap (λ (x : SeatState). x.me.0.waits + 1) wrote), c.requires.new.counts.1);
    }

pub put_latch-requires : goal.put_latch-requires
put_latch-requires c =
    let has = c.requires.entered in
    let wrote = c.in_default.ensures.written has.3.entered.1.found.book (entered_holds has.3).carried in
    record {
      place = place_there c.args.latch.place (table_of c.open_wait.ensures.made ∙ table_of wrote) has.3.is_place;
      put = wish_puts has.3 c.args.number c.requires.new.is_next c.write_wish.new.self wrote c.requires.new.unfast c.open_wait.new.self.me c.open_wait.ensures.keeps;
    }

pub returns-in-Err : goal.returns-in-Err
returns-in-Err c = record {
  done = λ word place s has.
      refused has c.in-Err.cause c.write_wish.new.self _ c.in-Err.ensures.unchanged
      (full _ _ c.in-Err.cause (c.in-Err.ensures.refused has.entered.1.found.book (entered_holds has).carried))
      c.lower_flags_and_put.ensures.left.visited c.lower_flags_and_put.ensures.left.step;
  once = subst (λ (x : SeatState). VisitsOnce c.args.latch.place x.me c.lower_flags_and_put.new.seat.me) c.in-Err.ensures.unchanged c.lower_flags_and_put.ensures.left.once;
}

pub returns : goal.returns
returns c = record {
  done = λ word place s has.
      begins has c.args.number c.requires.new.is_next c.write_wish.new.self (c.in_default.ensures.written has.entered.1.found.book (entered_holds has).carried)
      c.open_wait.new.self _ c.open_wait.ensures.made c.put_latch.ensures.made;
  once =
      let has = c.requires.entered in
      visit_opened c.args.latch.place c.args.mode _ c.args.seat.now c.write_wish.new.self c.open_wait.new.self c.put_latch.new.self
      (c.in_default.ensures.written has.3.entered.1.found.book (entered_holds has.3).carried) c.open_wait.ensures.made c.put_latch.ensures.made;
}

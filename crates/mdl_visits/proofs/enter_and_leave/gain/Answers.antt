-- The ticket is written and the latch given back with it, or the request can't be granted, or there was no room.
use Rattle.std.proofs.Common.{Bool, [], false, refl, subst, sym, ◌∙◌, ◌∷◌}
use Rattle.mdl_visits.proofs.Lemmas.{Gain, HasWorked, SeatState, Ticket, VisitsOnce, WasRefusedWish, as_told, conflicts, entered_holds, granted, may_gain, place_there, refused, rested, table_of, told_here, visit_written}
use Rattle.mdl_visits.proofs.Trying.{lacks_room, ready}
use Rattle.mdl_visits.proofs.enter_and_leave.gain.Goals as goal

pub write_if_grantable-requires : goal.write_if_grantable-requires
write_if_grantable-requires c =
    let has = c.requires.entered.3 in
    record { carried = (has.entered.1.found.book, (entered_holds has).carried) }

-- ---- it was written

pub put_latch-requires : goal.put_latch-requires
put_latch-requires c =
    let has = c.requires.entered.3 in
    let t : Ticket = record { session = c.args.seat.now.me.0.number; number = c.args.number; mode = c.args.mode } in
    let may = may_gain Unit tt t c.args.word.0 has.entered.1.found.book (c.in_default.ensures.refused has.entered.1.found.book (entered_holds has).carried) in
    let told = as_told (sym (told_here has) ∙ may) has in
    let wrote = c.in_default.ensures.written told.entered.1.found.book (entered_holds told).carried in
    record {
      place = place_there c.args.latch.place (table_of wrote) has.is_place;
      put = ready told c.args.number c.write_if_grantable.new.seat c.requires.number wrote;
    }

pub returns-in_default : goal.returns-in_default
returns-in_default c = record {
  done = λ place can s has.
      let t : Ticket = record { session = c.args.seat.now.me.0.number; number = c.args.number; mode = c.args.mode } in
      let may = may_gain Unit tt t c.args.word.0 has.entered.1.found.book (c.in_default.ensures.refused has.entered.1.found.book (entered_holds has).carried) in
      let told = as_told (sym (told_here has) ∙ may) has in
      granted told (Gain c.args.number c.args.mode) c.write_if_grantable.new.seat c.put_latch.new.self (c.in_default.ensures.written told.entered.1.found.book (entered_holds told).carried)
      c.put_latch.ensures.made;
  once =
      let has = c.requires.entered.3 in
      let wrote = c.in_default.ensures.written has.entered.1.found.book (entered_holds has).carried in
      visit_written c.args.latch.place (Gain c.args.number c.args.mode ∷ []) _ c.args.seat.now c.write_if_grantable.new.seat c.put_latch.new.self wrote c.put_latch.ensures.made;
}

-- ---- it wasn't

pub returns-in-WouldConflict : goal.returns-in-WouldConflict
returns-in-WouldConflict c = record {
  done = λ place can s has.
      let book = has.entered.1.found.book in
      let t : Ticket = record { session = c.args.seat.now.me.0.number; number = c.args.number; mode = c.args.mode } in
      let refused = c.in-Err.ensures.refused book (entered_holds has).carried in
      (sym (told_here has) ∙ conflicts Unit t c.args.word.0 book c.in-Err.cause c.in-WouldConflict.is refused, refl, c.in-Err.ensures.unchanged);
  once = tt;
}

pub lower_flags_and_put-requires : goal.lower_flags_and_put-requires
lower_flags_and_put-requires c = record { worked = subst (HasWorked c.args.latch.place [] false) (sym c.in-Err.ensures.unchanged) (rested c.requires.entered.3) }

pub returns-in_default-cause : goal.returns-in_default-cause
returns-in_default-cause c = record {
  done = λ place can s has.
      let book = has.entered.1.found.book in
      let t : Ticket = record { session = c.args.seat.now.me.0.number; number = c.args.number; mode = c.args.mode } in
      let why = lacks_room Unit t c.args.word.0 book c.in-Err.cause c.in_default-cause.not-WouldConflict (c.in-Err.ensures.refused book (entered_holds has).carried) in
      let may = sym (told_here has) ∙ why.0 in
      let left = c.lower_flags_and_put.ensures.left in
      let now = c.lower_flags_and_put.new.seat in (
        may,
        subst (λ (b : Bool). WasRefusedWish place c.args.mode b c.in-Err.cause s now) may
            (refused has c.in-Err.cause c.write_if_grantable.new.seat now c.in-Err.ensures.unchanged why.1 left.visited left.step),
      );
  once = subst (λ (x : SeatState). VisitsOnce c.args.latch.place x.me c.lower_flags_and_put.new.seat.me) c.in-Err.ensures.unchanged c.lower_flags_and_put.ensures.left.once;
}

-- The ticket stands in the book that is met under the latch, so its mode is written where the wish can be granted.
use Rattle.std.proofs.Common.{true, [], ◌∷◌, refl, sym, subst, ◌∙◌}
use Rattle.mdl_visits.proofs.Lemmas.{Alter, SeatState, StaysWithin, blocked, entered_holds, granted, place_there, ready_altered, rested, still_entered, table_of, told_here, visit_entered, visit_written}
use Rattle.mdl_visits.proofs.Trying.{altered}
use Rattle.mdl_visits.proofs.calls.upgrade_now.upgrade_now.Goals as goal

pub enter-requires : goal.enter-requires
enter-requires g c = let wish = c.requires.wish in record { at = c.requires.at; wish = (wish.0, wish.1, sym wish.2) }

pub can_grant-requires : goal.can_grant-requires
can_grant-requires g c =
    let entered = c.enter.ensures.entered in
    record { carried = (entered.1.entered.1.found.book, (entered_holds entered.1).carried) }

pub lower_flags_and_put-requires : goal.lower_flags_and_put-requires
lower_flags_and_put-requires g c =
    let entered = c.enter.ensures.entered in
    record { worked = rested (still_entered (refl, refl, c.can_grant.ensures.same) entered.1) }

pub returns-then-not-can_grant : goal.returns-then-not-can_grant
returns-then-not-can_grant g c =
    let entered = c.enter.ensures.entered in
    let told = c.can_grant.ensures.told entered.1.entered.1.found.book (entered_holds entered.1).carried in
    let has = still_entered (sym (told_here entered.1) ∙ sym told ∙ c.if-not-can_grant.true, refl, c.can_grant.ensures.same) entered.1 in
    let left = c.lower_flags_and_put.ensures.left in
    let within = subst (λ (x : SeatState). StaysWithin true c.args.seat.now.me x.me) (sym c.can_grant.ensures.same) c.enter.ensures.within in
    record {
      granted = λ never. absurd (cc);
      blocked = λ _. blocked has c.lower_flags_and_put.new.seat left.visited left.step;
      once = visit_entered has true c.lower_flags_and_put.new.seat within left.once;
    }

pub put_latch-requires : goal.put_latch-requires
put_latch-requires g c =
    let entered = c.enter.ensures.entered in
    let told = c.can_grant.ensures.told entered.1.entered.1.found.book (entered_holds entered.1).carried in
    let has = still_entered (sym (told_here entered.1) ∙ sym told ∙ c.if-not-can_grant.false, refl, c.can_grant.ensures.same) entered.1 in
    let wrote = c.write_mode-altered in
    let wish = c.requires.wish in
    let carried = (entered_holds has).carried in
    let is = altered has c.args.number wish.0 wish.1.knows wish.2 c.requires.held wrote.new.self wrote.result (wrote.ensures.refused _ carried) (wrote.ensures.written _ carried) in
    record {
      place = place_there c.enter.result.0.place (table_of is) has.is_place;
      put = ready_altered has c.args.number wish.0 wish.1.knows wish.2 c.requires.held wrote.new.self is;
    }

pub returns : goal.returns
returns g c =
    let entered = c.enter.ensures.entered in
    let told = c.can_grant.ensures.told entered.1.entered.1.found.book (entered_holds entered.1).carried in
    let has = still_entered (sym (told_here entered.1) ∙ sym told ∙ c.if-not-can_grant.false, refl, c.can_grant.ensures.same) entered.1 in
    let wrote = c.write_mode-altered in
    let wish = c.requires.wish in
    let carried = (entered_holds has).carried in
    let is = altered has c.args.number wish.0 wish.1.knows wish.2 c.requires.held wrote.new.self wrote.result (wrote.ensures.refused _ carried) (wrote.ensures.written _ carried) in
    let within = subst (λ (x : SeatState). StaysWithin true c.args.seat.now.me x.me) (sym c.can_grant.ensures.same) c.enter.ensures.within in
    record {
      granted = λ _. granted has (Alter c.args.number c.args.mode) wrote.new.self _ is c.put_latch.ensures.made;
      blocked = λ never. absurd (cc);
      once = visit_entered has true c.put_latch.new.self within
          (visit_written c.enter.result.0.place (Alter c.args.number c.args.mode ∷ []) _ c.can_grant.new.self wrote.new.self c.put_latch.new.self is c.put_latch.ensures.made);
    }

-- The ticket has the stronger mode, or would have to wait for it, or can't have it.
use Rattle.std.proofs.Common.{Err, None, Some, ap, rules, sym, ◌∙◌, ◌≡◌}
use Rattle.mdl_shared.proofs.Lemmas.{Upgrade_now, becomes-slow, covered-joins, covered-shows, fault-seen, held-seen, just-done, just-refused, member, own-shows, same-lists, slow-then, upgrade-refused, upgrade-unfit, upgrade_fault, view_of}
use Rattle.mdl_shared.proofs.SlowFirst.{tried-slow}
use Rattle.mdl_shared.proofs.session.Session.upgrade_now.Goals as goal

pub returns-in_err-held : goal.returns-in_err-held
returns-in_err-held g c =
    let m = c.self.inside.member in
    let why = c.in_err-held.field-0.0 in
    let refused : c.from_residual.result ≡ Err why = search rules in
    let call = Upgrade_now m.seat.me.0.number c.args.id c.args.mode in
    let fault = fault-seen m call (Some why) (just-refused _ _ why c.in_err-held.ensures.just) in
    rw refused (rw (← c.self.view_is) (record {
      joined = upgrade-unfit (member m) why c.args.id c.args.mode fault;
      shown = own-shows call why (view_of m) fault;
    }))

pub returns-then-covers : goal.returns-then-covers
returns-then-covers g c =
    let m = c.self.inside.member in
    let t = c.in_ok-held.held in
    let its = held-seen m c.args.id (Some t) (sym c.in_ok-held.ensures.found) in
    let clear = fault-seen m (Upgrade_now m.seat.me.0.number c.args.id c.args.mode) None (just-done _ _ c.in_ok-held.ensures.just) in
    let has = sym c.covers.ensures ∙ c.if-covers.true in
    rw (← c.self.view_is) (record {
      joined = covered-joins (member m) c.args.id t its c.args.mode clear has;
      shown = covered-shows (member m) c.args.id t its c.args.mode clear has;
    })

-- ---- its mode doesn't cover the other one

pub returns-in_err-materialise : goal.returns-in_err-materialise
returns-in_err-materialise g c =
    let m = c.self.inside.member in
    let why = c.in_err-materialise.field-0.0 in
    let refused : c.from_residual-in_err-materialise.result ≡ Err why = search rules in
    let its = held-seen m c.args.id (Some c.in_ok-held.held) (sym c.in_ok-held.ensures.found) in
    let clear = fault-seen m (Upgrade_now m.seat.me.0.number c.args.id c.args.mode) None (just-done _ _ c.in_ok-held.ensures.just) in
    let both = upgrade-refused (member m) c.args.id c.in_ok-held.held its c.args.mode clear (sym c.covers.ensures ∙ c.if-covers.false)
    c.materialise.ensures.done c.in_err-materialise.ensures.refused c.in_err-materialise.ensures.stops c.materialise.ensures.room in
    rw refused (rw (← c.self.view_is) (record { joined = both.0; shown = both.1 }))

pub upgrade_by_latch-requires : goal.upgrade_by_latch-requires
upgrade_by_latch-requires g c =
    let m = c.self.inside.member in
    let n = c.materialise.new.self in
    let t = c.in_ok-held.held in
    let done = c.materialise.ensures.done.done in
    let same = same-lists m n done in
    record {
      may = record {
        held = slow-then m n done c.in_ok-materialise.ensures.slow.0 c.args.id t c.in_ok-held.ensures.found;
        clear = (λ i. upgrade_fault c.args.mode (same.known i) (same.asks i) (Some t)) ∙ sym (ap (upgrade_fault c.args.mode m.known.known m.asks) c.in_ok-held.ensures.found)
            ∙ just-done _ _ c.in_ok-held.ensures.just;
        unfast = c.in_ok-materialise.ensures.slow.0;
      };
      short = sym c.covers.ensures ∙ c.if-covers.false;
    }

pub returns : goal.returns
returns g c =
    let m = c.self.inside.member in
    let its = held-seen m c.args.id (Some c.in_ok-held.held) (sym c.in_ok-held.ensures.found) in
    let clear = fault-seen m (Upgrade_now m.seat.me.0.number c.args.id c.args.mode) None (just-done _ _ c.in_ok-held.ensures.just) in
    let slow = becomes-slow m c.materialise.new.self c.materialise.ensures.done c.in_ok-materialise.ensures.slow c.materialise.ensures.room in
    let both = tried-slow (member m) c.args.id c.in_ok-held.held its c.args.mode clear (sym c.covers.ensures ∙ c.if-covers.false) slow c.in_ok-materialise.ensures.turn c.upgrade_by_latch.ensures.once c.upgrade_by_latch.ensures.room c.upgrade_by_latch.result
    c.upgrade_by_latch.ensures.upgraded c.upgrade_by_latch.ensures.blocked in
    rw (← c.self.view_is) (record { joined = both.0; shown = both.1 })

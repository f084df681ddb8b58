-- The ticket has the weaker mode, or it can't have it.
use Rattle.std.proofs.Common.{Err, None, Some, [], inr, refl, sym, subst, rules, ◌∷◌, ◌≡◌, ◌∙◌, ℕ}
use Rattle.mdl_shared.proofs.Lemmas.{Alter, Downgrade, HoldsTicket, KeepsRoom, Member, Mode, Room, SessionTicket, alters-slow, done-order, downgrade-passed, downgrade-unfit, downgrade_fault, downgraded, fault-seen, fit_there, holds-ticket, just-done, just-refused, kept, lists-done, lists-rescheduled, member, numbered, owed-paid, own-shows, rescheduled, rescheduled-owes, room-kept, spared, tickets_seen, uncounted-slow, unnumbered, view_of, weakened-uncounted}
use Rattle.mdl_shared.proofs.session.Session.downgrade.Goals as goal

pub returns-in_err-held : goal.returns-in_err-held
returns-in_err-held g c =
    let m = c.self.inside.member in
    let why = c.in_err-held.field-0.0 in
    let refused : c.from_residual.result ≡ Err why = search rules in
    let call = Downgrade m.seat.me.0.number c.args.id c.args.mode in
    let fault = fault-seen m call (Some why) (just-refused _ _ why c.in_err-held.ensures.just) in
    rw refused (rw (← c.self.view_is) (record {
      joined = downgrade-unfit (member m) why c.args.id c.args.mode fault;
      shown = own-shows call why (view_of m) fault;
    }))

-- a ticket that may be brought down is slow
slow-held : (m : Member) (id : ℕ) (mode : Mode) (t : SessionTicket) → HoldsTicket id t (view_of m) → downgrade_fault (numbered id (tickets_seen m.seat.me.0)) mode m.seat.me.0.known ≡ None
    → numbered t.number m.seat.me.0.slow ≡ Some t
slow-held m id mode t held clear =
    let may = downgrade-passed mode m.seat.me.0.known (numbered id (tickets_seen m.seat.me.0)) t held.its clear in
    uncounted-slow (member m) t.number t held.own (weakened-uncounted t.mode mode may.0)

pub downgrade-requires : goal.downgrade-requires
downgrade-requires g c =
    let m = c.self.inside.member in
    let t = c.in_ok-held.held in
    let held = holds-ticket m c.args.id t c.in_ok-held.ensures.found in
    let clear = fault-seen m (Downgrade m.seat.me.0.number c.args.id c.args.mode) None (just-done _ _ c.in_ok-held.ensures.just) in
    let may = downgrade-passed c.args.mode m.seat.me.0.known (numbered c.args.id (tickets_seen m.seat.me.0)) t held.its clear in
    record {
      at = held.at;
      unwaited = held.unwaited;
      held = slow-held m c.args.id c.args.mode t held clear;
      fits = fit_there t.place c.args.mode m.seat.me.0.known may.1;
      weaker = may.0;
    }

pub set_mode-requires : goal.set_mode-requires
set_mode-requires g c =
    let m = c.self.inside.member in
    let t = c.in_ok-held.held in
    let held = holds-ticket m c.args.id t c.in_ok-held.ensures.found in
    let clear = fault-seen m (Downgrade m.seat.me.0.number c.args.id c.args.mode) None (just-done _ _ c.in_ok-held.ensures.just) in
    record { slow = unnumbered m t.number (spared (member m) t.number t (slow-held m c.args.id c.args.mode t held clear)) }

pub invariant_of-member : goal.invariant_of-member
invariant_of-member g c =
    let m = c.self.inside.member in
    let is = member m in
    let t = c.in_ok-held.held in
    let held = holds-ticket m c.args.id t c.in_ok-held.ensures.found in
    let clear = fault-seen m (Downgrade m.seat.me.0.number c.args.id c.args.mode) None (just-done _ _ c.in_ok-held.ensures.just) in
    let did = c.downgrade.ensures in
    let keeps = subst (λ (r : Room). KeepsRoom 0 m.tickets.room r) (sym c.pay.ensures.same.2) c.set_mode.ensures.rest.room in
    let visit = did.downgraded in
    let slow = slow-held m c.args.id c.args.mode t held clear in
    let done = rescheduled m.seat c.downgrade.new.seat m.sessions (alters-slow is t.place t.number c.args.mode t slow) visit in
    record {
      lawful = ∣ kept (Downgrade _ _ _) is (done-order done is (inr refl)) (downgraded m.seat c.downgrade.new.seat m.sessions c.args.id {room = m.tickets.room} {room′ = c.pay.new.self.room} {pins = m.known.pins} c.args.mode t is held slow clear visit did.step did.once keeps).0 ∣₁;
      lists = lists-done m t.place (Alter t.number c.args.mode ∷ []) (lists-rescheduled visit) (c.pay.ensures.same.0 ∙ c.set_mode.ensures.changed.0) (c.pay.ensures.same.1 ∙ c.set_mode.ensures.changed.1);
      room = λ ask asks. room-kept m.tickets c.pay.new.self keeps (m.room ask asks);
      owed = owed-paid m c.set_mode.new.self c.pay.new.self t.place c.set_mode.ensures.rest.owes c.pay.ensures.owes (rescheduled-owes visit);
    }

pub returns : goal.returns
returns g c =
    let m = c.self.inside.member in
    let t = c.in_ok-held.held in
    let held = holds-ticket m c.args.id t c.in_ok-held.ensures.found in
    let clear = fault-seen m (Downgrade m.seat.me.0.number c.args.id c.args.mode) None (just-done _ _ c.in_ok-held.ensures.just) in
    let did = c.downgrade.ensures in
    let keeps = subst (λ (r : Room). KeepsRoom 0 m.tickets.room r) (sym c.pay.ensures.same.2) c.set_mode.ensures.rest.room in
    let both = downgraded m.seat c.downgrade.new.seat m.sessions c.args.id {room = m.tickets.room} {room′ = c.pay.new.self.room} {pins = m.known.pins} c.args.mode t (member m) held (slow-held m c.args.id c.args.mode t held clear) clear did.downgraded did.step did.once keeps in
    rw (← c.self.view_is) (record { joined = both.0; shown = both.1 })

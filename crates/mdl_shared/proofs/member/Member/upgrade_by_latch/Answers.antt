-- The ticket has the stronger mode, or would have to wait for it.
use Rattle.std.proofs.Common.{Some, [], ◌∷◌, inr, refl, sym, ap, ◌∙◌}
use Rattle.mdl_shared.proofs.Lemmas.{Alter, Lists, Upgrade_now, alters-slow, done-order, kept, kind_there, lists-done, lists-visited, member, owed-both, owed-visited, quiet-visit, room-kept, slow-held, spared, still-member, unnumbered, upgrade-covers, upgrade-joins, upgrade-kind, upgrade_fault, visited, visited-owes}
use Rattle.mdl_shared.proofs.member.Member.upgrade_by_latch.Goals as goal

pub upgrade_now-requires-clause-at : goal.upgrade_now-requires-clause-at
upgrade_now-requires-clause-at g c = (slow-held c.args.self.now c.args.held c.requires.may.unfast c.requires.may.held).0.at

pub upgrade_now-requires-clause-held : goal.upgrade_now-requires-clause-held
upgrade_now-requires-clause-held g c =
    let m = c.args.self.now in
    let t = c.args.held in
    record {
      held = t;
      there = (slow-held m t c.requires.may.unfast c.requires.may.held).1.slow;
      here = refl;
      stronger = upgrade-covers c.args.mode m.known.known m.asks t c.requires.may.clear c.requires.short;
    }

pub upgrade_now-requires-clause-wish : goal.upgrade_now-requires-clause-wish
upgrade_now-requires-clause-wish g c =
    let m = c.args.self.now in
    let t = c.args.held in
    let clear = ap (λ (l : Lists). upgrade_fault c.args.mode l.known l.asks (Some t)) (sym m.lists) ∙ c.requires.may.clear in
    let kind = upgrade-kind c.args.mode m.seat.me.0.known m.seat.me.0.asks (Some t) t refl clear c.requires.short in
    (kind.0, record { idle = kind.4; knows = kind_there t.place kind.0 m.seat.me.0.known kind.1; is_mode = kind.2 }, kind.3)

-- ---- it would have to wait

pub invariant_of-self : goal.invariant_of-self
invariant_of-self g c =
    let m = c.args.self.now in
    let visit = (c.upgrade_now.ensures.blocked c.in-Blocked.is).0 in
    record {
      lawful = ∣ still-member (visited m.seat c.upgrade_now.new.seat m.sessions refl visit) (member m) ∣₁;
      lists = lists-done m c.args.held.place [] (lists-visited visit) refl refl;
      room = m.room;
      owed = owed-visited m visit;
    }

-- ---- it has the mode

pub set_mode-requires : goal.set_mode-requires
set_mode-requires g c =
    let m = c.args.self.now in
    let t = c.args.held in
    record { slow = unnumbered m t.number (spared (member m) t.number t (slow-held m t c.requires.may.unfast c.requires.may.held).1.its) }

pub invariant_of-self-2 : goal.invariant_of-self-2
invariant_of-self-2 g c =
    let m = c.args.self.now in
    let is = member m in
    let t = c.args.held in
    let held = slow-held m t c.requires.may.unfast c.requires.may.held in
    let clear = ap (λ (l : Lists). upgrade_fault c.args.mode l.known l.asks (Some t)) (sym m.lists) ∙ c.requires.may.clear in
    let visit = (c.upgrade_now.ensures.granted c.in-Granted.is).0 in
    let done = visited m.seat c.upgrade_now.new.seat m.sessions (alters-slow is t.place t.number c.args.mode t held.1.its) visit in
    record {
      lawful = ∣ kept (Upgrade_now _ _ _) is (done-order done is (inr refl)) (upgrade-joins is t.number t held.0.its c.args.mode
          (ap (upgrade_fault c.args.mode m.seat.me.0.known m.seat.me.0.asks) held.0.its ∙ clear) c.requires.short done) ∣₁;
      lists = lists-done m t.place (Alter t.number c.args.mode ∷ []) (lists-visited visit) c.set_mode.ensures.changed.0 c.set_mode.ensures.changed.1;
      room = λ ask asks. room-kept m.tickets c.set_mode.new.self c.set_mode.ensures.rest.room (m.room ask asks);
      owed = owed-both m c.set_mode.ensures.rest.owes (visited-owes visit);
    }

pub returns-clause-upgraded : goal.returns-clause-upgraded
returns-clause-upgraded g c =
    let m = c.args.self.now in
    let t = c.args.held in
    let held = slow-held m t c.requires.may.unfast c.requires.may.held in
    let went = c.upgrade_now.ensures.granted c.in-Granted.is in
    λ e. (quiet-visit (visited m.seat c.upgrade_now.new.seat m.sessions (alters-slow (member m) t.place t.number c.args.mode t held.1.its) went.0) went.0.1, went.1)

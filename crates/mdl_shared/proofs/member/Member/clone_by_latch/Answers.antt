-- The second ticket is the last of the session's, or none is made.
use Rattle.std.proofs.Common.{Some, [], ◌∷◌, inl, refl, sym, ap, ◌∙◌, arith}
use Rattle.mdl_shared.proofs.Lemmas.{Clone_ticket, Gain, Lists, below-seen, clone-joins, clone_fault, done-order, fit_there, gained-by, kept, lists-done, lists-visited, member, owed-both, owed-visited, slow-held, still-member, unasked, visited, visited-owes}
use Rattle.mdl_shared.proofs.WishFaults.{clone-passed}
use Rattle.mdl_shared.proofs.member.Member.clone_by_latch.Goals as goal

pub clone_ticket-requires-clause-at : goal.clone_ticket-requires-clause-at
clone_ticket-requires-clause-at g c = (slow-held c.args.self.now c.args.held c.requires.may.unfast c.requires.may.held).0.at

pub clone_ticket-requires-clause-may : goal.clone_ticket-requires-clause-may
clone_ticket-requires-clause-may g c =
    let m = c.args.self.now in
    let t = c.args.held in
    let clear = ap (λ (l : Lists). clone_fault (Some t) l.asks c.args.mode l.known l.next) (sym m.lists) ∙ c.requires.may.clear in
    let may = clone-passed m.seat.me.0.asks c.args.mode m.seat.me.0.known m.seat.me.0.next (Some t) t refl clear in record {
      idle = may.0;
      held = (slow-held m t c.requires.may.unfast c.requires.may.held).1.its;
      next = ap (λ (l : Lists). l.next) m.lists;
      fits = fit_there t.place c.args.mode m.seat.me.0.known may.1;
      covered = may.3;
    }

-- ---- none is made

pub invariant_of-self : goal.invariant_of-self
invariant_of-self g c =
    let m = c.args.self.now in
    let visit = c.in-Err.ensures.refused.0 in
    record {
      lawful = ∣ still-member (visited m.seat c.clone_ticket.new.seat m.sessions refl visit) (member m) ∣₁;
      lists = lists-done m c.args.held.place [] (lists-visited visit) refl refl;
      room = m.room;
      owed = owed-visited m visit;
    }

-- ---- it is made

pub push_reserved-requires-clause-below : goal.push_reserved-requires-clause-below
push_reserved-requires-clause-below g c = below-seen c.args.self.now _ _ (refl, refl)

pub overflow_add-self : goal.overflow_add-self
overflow_add-self g c =
    let m = c.args.self.now in
    let may = clone-passed m.asks c.args.mode m.known.known m.next (Some c.args.held) c.args.held refl c.requires.may.clear in
    omega (arith, may.2)

pub invariant_of-self-2 : goal.invariant_of-self-2
invariant_of-self-2 g c =
    let m = c.args.self.now in
    let is = member m in
    let t = c.args.held in
    let its = (slow-held m t c.requires.may.unfast c.requires.may.held).0.its in
    let free = ap (λ (l : Lists). clone_fault (Some t) l.asks c.args.mode l.known l.next) (sym m.lists) ∙ c.requires.may.clear in
    let clear = ap (λ o. clone_fault o m.seat.me.0.asks c.args.mode m.seat.me.0.known m.seat.me.0.next) its ∙ free in
    let idle = (clone-passed m.seat.me.0.asks c.args.mode m.seat.me.0.known m.seat.me.0.next (Some t) t refl free).0 in
    let visit = c.in_default.ensures.cloned in
    let done = gained-by m c.clone_ticket.new.seat t.place c.args.mode c.requires.may.unfast visit in
    record {
      lawful = ∣ kept (Clone_ticket _ _ _) is (done-order done is (inl idle)) (clone-joins is t.number c.args.mode clear t its (ap (λ (l : Lists). l.next) m.lists) done) ∣₁;
      lists = lists-done m t.place (Gain m.next c.args.mode ∷ []) (lists-visited visit) c.push_reserved.ensures.gained c.push_reserved.ensures.same;
      room = unasked m idle _;
      owed = owed-both m c.push_reserved.ensures.owes (visited-owes visit);
    }

-- The mode is one of the lock's kind that the ticket's own covers, and the second ticket is the last of the session's.
use Rattle.std.proofs.Common.{Err, None, Ok, Option, Some, ap, rules, subst, sym, ℕ, ◌∙◌, ◌≡◌}
use Rattle.mdl_shared.proofs.Lemmas.{Clone_ticket, GainsFast, IfSome, Lists, SessionTicket, clone-unfit, clone_fault, cloned-slow, fast-cloned, fault-seen, full-cloned, held-seen, just-done, just-refused, member, own-shows, same-lists, slow-then, view_of}
use Rattle.mdl_shared.proofs.session.Session.clone_ticket.Goals as goal

pub returns-in_err-held : goal.returns-in_err-held
returns-in_err-held g c =
    let m = c.self.inside.member in
    let why = c.in_err-held.field-0.0 in
    let refused : c.from_residual.result ≡ Err why = search rules in
    let call = Clone_ticket m.seat.me.0.number c.args.id c.args.mode in
    let fault = fault-seen m call (Some why) (just-refused _ _ why c.in_err-held.ensures.just) in
    rw refused (rw (← c.self.view_is) (record {
      joined = clone-unfit (member m) c.args.id c.args.mode why fault;
      shown = own-shows call why (view_of m) fault;
    }))

-- ---- it may be made

pub returns-in_err-number : goal.returns-in_err-number
returns-in_err-number g c =
    let m = c.self.inside.member in
    let why = c.in_err-number.field-0.0 in
    let refused : c.from_residual-in_err-number.result ≡ Err why = search rules in
    let its = held-seen m c.args.id (Some c.in_ok-held.held) (sym c.in_ok-held.ensures.found.0) in
    let clear = fault-seen m (Clone_ticket m.seat.me.0.number c.args.id c.args.mode) None (just-done _ _ c.in_ok-held.ensures.just) in
    let both = full-cloned (member m) c.args.id c.args.mode clear c.in_ok-held.held its c.in_err-number.ensures.unchanged c.in_err-number.ensures.refused in
    rw refused (rw (← c.self.view_is) (record { joined = both.0; shown = both.1 }))

pub returns-in-Some : goal.returns-in-Some
returns-in-Some g c =
    let m = c.self.inside.member in
    let t = c.in_ok-held.held in
    let its = held-seen m c.args.id (Some t) (sym c.in_ok-held.ensures.found.0) in
    let clear = fault-seen m (Clone_ticket m.seat.me.0.number c.args.id c.args.mode) None (just-done _ _ c.in_ok-held.ensures.just) in
    let gains = subst (λ (o : Option ℕ). IfSome o (λ id. GainsFast t.place c.args.mode id (view_of m) (view_of c.try_fast_first.new.self)))
    c.in-Some.is c.in_ok-number.ensures.granted in
    let both = fast-cloned (member m) c.args.id c.args.mode clear t its gains in
    rw (← c.self.view_is) (record { joined = both.0; shown = both.1 })

pub clone_by_latch-requires : goal.clone_by_latch-requires
clone_by_latch-requires g c =
    let m = c.self.inside.member in
    let t = c.in_ok-held.held in
    let slow = c.in_ok-number.ensures.slow (ap Ok c.in_default.is) in
    let same = same-lists m c.try_fast_first.new.self slow.0.quiet.done in
    let found = ap (λ (o : Option SessionTicket). clone_fault o m.asks c.args.mode m.known.known m.next) c.in_ok-held.ensures.found.0 in
    record {
      may = record {
        held = slow-then m c.try_fast_first.new.self slow.0.quiet.done slow.2 c.args.id t c.in_ok-held.ensures.found.0;
        clear = (λ i. clone_fault (Some t) (same.asks i) c.args.mode (same.known i) (same.next i)) ∙ sym found ∙ just-done _ _ c.in_ok-held.ensures.just;
        unfast = slow.2;
        room = slow.3;
      };
    }

pub returns : goal.returns
returns g c =
    let m = c.self.inside.member in
    let n = c.try_fast_first.new.self in
    let its = held-seen m c.args.id (Some c.in_ok-held.held) (sym c.in_ok-held.ensures.found.0) in
    let clear = fault-seen m (Clone_ticket m.seat.me.0.number c.args.id c.args.mode) None (just-done _ _ c.in_ok-held.ensures.just) in
    let slow = c.in_ok-number.ensures.slow (ap Ok c.in_default.is) in
    let next = (same-lists m n slow.0.quiet.done).next ∙ ap (λ (l : Lists). l.next) m.lists in
    let both = cloned-slow (member m) c.args.id c.args.mode clear c.in_ok-held.held its slow.0 slow.1 c.clone_by_latch.ensures.once n.next next c.clone_by_latch.result
    c.clone_by_latch.ensures.cloned c.clone_by_latch.ensures.unchanged c.clone_by_latch.ensures.refused in
    rw (← c.self.view_is) (record { joined = both.0; shown = both.1 })

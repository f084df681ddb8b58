-- The ticket has the other one's mode, and that one goes; or they can't be merged.
use Rattle.std.proofs.Common.{Err, None, Some, ap, rules, sym, ◌∙◌, ◌≡◌}
use Rattle.mdl_shared.proofs.Lemmas.{Merge, becomes-slow, fault-seen, held-seen, just-done, just-refused, member, merge-refused, merge-unfit, merge_fault, merged-slow, own-shows, same-lists, slow-then, view_of}
use Rattle.mdl_shared.proofs.session.Session.merge.Goals as goal

pub returns-in_err-kept : goal.returns-in_err-kept
returns-in_err-kept g c =
    let m = c.self.inside.member in
    let why = c.in_err-kept.field-0.0 in
    let refused : c.from_residual.result ≡ Err why = search rules in
    let call = Merge m.seat.me.0.number c.args.old c.args.new in
    let fault = fault-seen m call (Some why) (just-refused _ _ why c.in_err-kept.ensures.just) in
    rw refused (rw (← c.self.view_is) (record {
      joined = merge-unfit (member m) why c.args.old c.args.new fault;
      shown = own-shows call why (view_of m) fault;
    }))

-- ---- they can be

pub returns-in_err-materialise : goal.returns-in_err-materialise
returns-in_err-materialise g c =
    let m = c.self.inside.member in
    let why = c.in_err-materialise.field-0.0 in
    let refused : c.from_residual-in_err-materialise.result ≡ Err why = search rules in
    let its = held-seen m c.args.old (Some c.in_ok-kept.kept) (sym c.in_ok-kept.ensures.found.0) in
    let other = held-seen m c.args.new (Some c.in_ok-kept.gone) (sym c.in_ok-kept.ensures.found.1) in
    let clear = fault-seen m (Merge m.seat.me.0.number c.args.old c.args.new) None (just-done _ _ c.in_ok-kept.ensures.just) in
    let both = merge-refused (member m) c.args.old c.args.new c.in_ok-kept.kept c.in_ok-kept.gone its other clear
    c.materialise.ensures.done c.in_err-materialise.ensures.refused c.in_err-materialise.ensures.stops c.materialise.ensures.room in
    rw refused (rw (← c.self.view_is) (record { joined = both.0; shown = both.1 }))

pub merge_by_latch-requires : goal.merge_by_latch-requires
merge_by_latch-requires g c =
    let m = c.self.inside.member in
    let n = c.materialise.new.self in
    let done = c.materialise.ensures.done.done in
    let none = c.in_ok-materialise.ensures.slow.0 in
    let found = c.in_ok-kept.ensures.found in
    record {
      may = record {
        held = (slow-then m n done none c.args.old c.in_ok-kept.kept found.0, slow-then m n done none c.args.new c.in_ok-kept.gone found.1);
        clear = ap (merge_fault (Some c.in_ok-kept.kept) (Some c.in_ok-kept.gone)) (same-lists m n done).asks
            ∙ sym (λ i. merge_fault (found.0 i) (found.1 i) m.asks) ∙ just-done _ _ c.in_ok-kept.ensures.just;
        unfast = none;
      };
    }

pub returns : goal.returns
returns g c =
    let m = c.self.inside.member in
    let its = held-seen m c.args.old (Some c.in_ok-kept.kept) (sym c.in_ok-kept.ensures.found.0) in
    let other = held-seen m c.args.new (Some c.in_ok-kept.gone) (sym c.in_ok-kept.ensures.found.1) in
    let clear = fault-seen m (Merge m.seat.me.0.number c.args.old c.args.new) None (just-done _ _ c.in_ok-kept.ensures.just) in
    let slow = becomes-slow m c.materialise.new.self c.materialise.ensures.done c.in_ok-materialise.ensures.slow c.materialise.ensures.room in
    let both = merged-slow (member m) c.args.old c.args.new c.in_ok-kept.kept c.in_ok-kept.gone its other clear slow c.in_ok-materialise.ensures.turn c.merge_by_latch.ensures.done.once c.merge_by_latch.ensures.done.room
    c.merge_by_latch.ensures.done.merged c.merge_by_latch.ensures.done.met in
    rw (← c.self.view_is) (record { joined = both.0; shown = both.1 })

-- The session may wish so. What became of the wish is told by the fast path, or by the latch of the place.
use Rattle.std.proofs.Common.{Err, Ok, Some, ap, rules, ◌∙◌, ◌≡◌}
use Rattle.mdl_shared.proofs.Lemmas.{Try_now, fault-seen, full-fast, kind_pinned, may-wish, member, own-shows, same-lists, tried-slow, try-fast, try-full, try-unfit, view_of, visit-seen, wish_fault}
use Rattle.mdl_shared.proofs.session.Session.try_now.Goals as goal

pub returns-in_err-kind : goal.returns-in_err-kind
returns-in_err-kind g c =
    let m = c.self.inside.member in
    let why = c.in_err-kind.field-0.0 in
    let refused : c.from_residual.result ≡ Err why = search rules in
    let fault = fault-seen m (Try_now m.seat.me.0.number c.args.place c.args.mode) (Some why) c.in_err-kind.ensures in
    rw refused (rw (← c.self.view_is) (record {
      joined = try-unfit (member m) c.args.place c.args.mode why fault;
      shown = own-shows (Try_now m.seat.me.0.number c.args.place c.args.mode) why (view_of m) fault;
    }))

pub returns-in_err-number : goal.returns-in_err-number
returns-in_err-number g c =
    let m = c.self.inside.member in
    let why = c.in_err-number.field-0.0 in
    let refused : c.from_residual-in_err-number.result ≡ Err why = search rules in
    let may = may-wish m c.args.place c.in_ok-kind.kind c.args.mode c.in_ok-kind.ensures in
    let full = full-fast c.args.place c.args.mode _ (view_of m) (view_of c.try_fast_first.new.self) c.in_err-number.ensures.refused in
    let both = try-full (member m) c.args.place c.args.mode may.clear c.in_err-number.ensures.unchanged full in
    rw refused (rw (← c.self.view_is) (record { joined = both.0; shown = both.1 }))

pub returns-in-Some : goal.returns-in-Some
returns-in-Some g c =
    let m = c.self.inside.member in
    let may = may-wish m c.args.place c.in_ok-kind.kind c.args.mode c.in_ok-kind.ensures in
    let both = try-fast (member m) c.args.place c.args.mode may.clear (rw c.in-Some.is at c.in_ok-number.ensures.granted) in
    rw (← c.self.view_is) (record { joined = both.0; shown = both.1 })

pub try_by_latch-requires : goal.try_by_latch-requires
try_by_latch-requires g c =
    let m = c.self.inside.member in
    let kind = c.in_ok-kind.kind in
    let slow = c.try_fast_first.ensures.slow (c.in_ok-number.was ∙ ap Ok c.in_default.is) in
    let same = same-lists m c.try_fast_first.new.self slow.0.quiet.done in
    record {
      may = record {
        pinned = (λ i. kind_pinned c.args.place (same.pins i) (same.known i)) ∙ c.in_ok-kind.ensures.0;
        clear = (λ i. wish_fault (Some kind) (same.asks i) c.args.mode (same.next i)) ∙ c.in_ok-kind.ensures.1;
        unfast = slow.2;
        room = slow.3;
      };
    }

pub returns : goal.returns
returns g c =
    let m = c.self.inside.member in
    let may = may-wish m c.args.place c.in_ok-kind.kind c.args.mode c.in_ok-kind.ensures in
    let slow = c.try_fast_first.ensures.slow (c.in_ok-number.was ∙ ap Ok c.in_default.is) in
    let came = c.try_by_latch.ensures in
    let once = visit-seen m c.args.place c.args.mode c.in_ok-kind.ensures.0 came.once in
    let both = tried-slow (member m) c.args.place c.args.mode may.clear slow.0 slow.1 once c.try_by_latch.result came.tried came.unchanged came.refused in
    rw (← c.self.view_is) (record { joined = both.0; shown = both.1 })

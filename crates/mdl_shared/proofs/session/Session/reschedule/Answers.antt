-- The place is one of the table's, and the session gives up nothing.
use Rattle.std.proofs.Common.{[], ap, subst, sym, true, ◌≡◌}
use Rattle.mdl_shared.proofs.Lemmas.{Mine, SessionView, data_of, does_reschedule, is_known, keeps-equal, lists_seen, may-visit, member, rescheduled-owes}
use Rattle.mdl_shared.proofs.session.Session.reschedule.Goals as goal

pub pay-requires : goal.pay-requires
pay-requires g c =
    let m = c.self.inside.member in
    let is = member m in
    let known = subst (λ (s : SessionView). is_known c.args.place (data_of s).known ≡ true) (sym c.self.view_is) c.requires.known in
    record { at = may-visit is c.args.place (known) }

pub returns : goal.returns
returns g c =
    let m = c.self.inside.member in
    let now = c.pay.new.self in
    let visit = c.pay.ensures.rescheduled in
    rw (← c.self.view_is) (record {
      same = (
        record {
          number = ap (λ (x : Mine). x.0.number) visit.1.now;
          table = visit.0;
          sessions = c.pay.ensures.same.0;
          lists = ap (λ (x : Mine). lists_seen x.0) visit.1.now;
          pins = c.pay.ensures.same.2;
          reads = ap (λ (x : Mine). x.0.reads) visit.1.now;
          room = keeps-equal m.tickets.room now.tickets.room c.pay.ensures.same.1;
        },
        visit.1.way.stays,
      );
      paid = rescheduled-owes visit;
      did = does_reschedule m.seat.me now.seat.me m.seat.table c.args.place [] visit.1;
      once = c.pay.ensures.once;
      way = visit.1.way;
    })

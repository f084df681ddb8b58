-- The ticket is released, and its place is rescheduled where that is owed.
use Rattle.std.proofs.Common.{◌≡◌, List, [], ◌∷◌, Some, refl, sym, ap, subst, ◌∙◌}
use Rattle.mdl_shared.proofs.Lemmas.{DidDeeds, GivesUpFast, KeepsRoom, KnownKey, Lists, Lose, Mine, Room, SessionView, does_reschedule, does_then, done-before, done-rest, fast-held, gives-up, gives-up_after, gone-quiet, is_known, keeps-freed, may-visit, member, numbered, paid-after, rescheduled, session_at, ticket-known, view_of}
use Rattle.mdl_shared.proofs.member.Member.give_up_fast.Goals as goal

pub pay-requires : goal.pay-requires
pay-requires g c =
    let m = c.args.self.now in
    let mid = c.lose_fast.new.self in
    let t = c.args.held in
    let its : numbered t.number m.seat.me.0.fast ≡ Some t = ap (λ (l : Lists). numbered t.number l.fast) (sym m.lists) ∙ c.requires.held in
    let known = ticket-known (member m) t.number t (fast-held (member m) t.number t its) in
    let same = (done-rest c.lose_fast.ensures.lost.done).known in
    record { at = may-visit (member mid) t.place (ap (λ (ks : List KnownKey). is_known t.place ks) same ∙ known) }

pub returns-then-lose_fast : goal.returns-then-lose_fast
returns-then-lose_fast g c =
    let m = c.args.self.now in
    let mid = c.lose_fast.new.self in
    let end = c.pay.new.self in
    let visit = c.pay.ensures.rescheduled in
    let lost = c.lose_fast.ensures.lost in
    let released = c.lose_fast.ensures.released in
    let t = c.args.held in
    let now : session_at end.seat mid.sessions mid.tickets.room mid.known.pins ≡ view_of end = λ i. session_at end.seat (sym c.pay.ensures.same.0 i) (sym c.pay.ensures.same.1 i) (sym c.pay.ensures.same.2 i) in
    let later = rescheduled {place = t.place} {ds = []} mid.seat end.seat mid.sessions {room = mid.tickets.room} {room′ = mid.tickets.room} {pins = mid.known.pins} refl visit in
    let less = paid-after (view_of m) (view_of mid) t c.lose_fast.result released c.if-lose_fast.true visit in
    record {
      lost = subst (λ (s : SessionView). DidDeeds t.place (Lose t.number ∷ []) (view_of m) s) now (done-before lost.done later less);
      did = does_then (Lose t.number ∷ []) [] m.seat.me mid.seat.me end.seat.me lost.did (does_reschedule mid.seat.me end.seat.me mid.seat.table t.place [] visit.1);
      given_up = subst (λ (s : SessionView). GivesUpFast t.number (view_of m) s t) now
          (gives-up_after (view_of m) (view_of mid) t c.lose_fast.result released lost.done c.if-lose_fast.true visit c.pay.ensures.once);
      searches = ap (λ (m : Mine). m.0.searches) visit.1.now ∙ lost.searches;
      room = subst (λ (r : Room). KeepsRoom 0 m.tickets.room r) (sym c.pay.ensures.same.1)
          (keeps-freed m.tickets.room mid.tickets.room c.lose_fast.ensures.room.0 c.lose_fast.ensures.room.1);
    }

pub returns-else-lose_fast : goal.returns-else-lose_fast
returns-else-lose_fast g c =
    let m = c.args.self.now in
    let mid = c.lose_fast.new.self in
    let lost = c.lose_fast.ensures.lost in
    let released = c.lose_fast.ensures.released in
    record {
      lost = gone-quiet (view_of m) (view_of mid) c.args.held c.lose_fast.result released lost.done c.if-lose_fast.false;
      did = lost.did;
      given_up = gives-up (view_of m) (view_of mid) c.args.held c.lose_fast.result released c.if-lose_fast.false;
      searches = lost.searches;
      room = keeps-freed m.tickets.room mid.tickets.room c.lose_fast.ensures.room.0 c.lose_fast.ensures.room.1;
    }

-- The wait is read, and ends where it is settled.
use Rattle.std.proofs.Common.{[], ◌∷◌, None, Some, is_some, refl, sym, ap, subst, ◌∙◌, arith}
use Rattle.mdl_shared.proofs.Lemmas.{End_wait, Gain, IsPlace, IsRising, Lists, Mine, SeatState, SessionView, Settled, all_but, all_tickets, are_below_next, awaited, keeps-equal, kept, lists_seen, may-visit, member, owed-both, owed-on, owed-paid, own_at, owned, polls, rescheduled-owes, session-there, session_at, settled_of, settled_state, still-member, view_of}
use Rattle.mdl_shared.proofs.EndCalls.{asked-below, asks-nothing, granted-so, idle-joins, lost-order, lost-so, won-order}
use Rattle.mdl_shared.proofs.EndSteps.{ended-lost, ended-won, ends-granted, lost-end, told-end, unsettled-end, won-end}
use Rattle.mdl_shared.proofs.session.Session.end_wait.Goals as goal

pub returns-in_default-clause-joined : goal.returns-in_default-clause-joined
returns-in_default-clause-joined g c =
    let m = c.self.inside.member in
    rw (← c.self.view_is) (idle-joins (member m) (ap (λ (l : Lists). l.asks) (sym m.lists) ∙ c.in_default.is))

pub read_wait-requires : goal.read_wait-requires
read_wait-requires g c =
    let m = c.self.inside.member in
    let is = member m in
    record { session = rw c.number-session.ensures (session-there (view_of m) is m.seat.me.0.number is.counted.0 is.counted.1) }

-- ---- it is not settled

pub invariant_of-member : goal.invariant_of-member
invariant_of-member g c =
    let m = c.self.inside.member in
    let did = c.read_wait.ensures in
    let asks = ap (λ (l : Lists). l.asks) (sym m.lists) ∙ c.in-Some.is in
    let now = ap (λ (x : SeatState). session_at x m.sessions m.tickets.room m.known.pins) did.made in
    let watched = (polls (member m) (ap is_some asks) c.number-session.result c.read_wait.result.0 c.number-session.ensures did.own now) in
    record {
      lawful = ∣ still-member watched.done (member m) ∣₁;
      lists = m.lists ∙ sym watched.lists;
      room = m.room;
      owed = owed-on m watched.owes;
    }

pub returns-in_default-settled_in : goal.returns-in_default-settled_in
returns-in_default-settled_in g c =
    let m = c.self.inside.member in
    let did = c.read_wait.ensures in
    let asks = ap (λ (l : Lists). l.asks) (sym m.lists) ∙ c.in-Some.is in
    let h = unsettled-end (member m) c.in-Some.ask asks c.number-session.result c.read_wait.result.0 c.number-session.ensures did.own
    (ap (λ (x : SeatState). session_at x m.sessions m.tickets.room m.known.pins) did.made) (sym (ap settled_of c.state.ensures) ∙ sym c.settled_in.ensures ∙ c.in_default-settled_in.is) in
    rw (← c.self.view_is) (record { joined = h.0; shown = h.1 })

-- ---- it was lost

pub end_lost_wait-requires : goal.end_lost_wait-requires
end_lost_wait-requires g c =
    let m = c.self.inside.member in
    let is = member m in
    let ask = c.in-Some.ask in
    let asks = ap (λ (l : Lists). l.asks) (sym m.lists) ∙ c.in-Some.is in
    let now = ap (λ (x : SeatState). session_at x m.sessions m.tickets.room m.known.pins) c.read_wait.ensures.made in
    let one = c.in-Some-settled_in.how in
    let some = sym (ap settled_of c.state.ensures) ∙ sym c.settled_in.ensures ∙ c.in-Some-settled_in.is in
    let waits = ap (λ (l : Lists). l.waits) m.lists in
    let so = lost-so m.seat.me.0.number one c.in-Some-lost_end.ended (sym c.lost_end.ensures ∙ c.in-Some-lost_end.is) in
    let at = may-visit is ask.place (awaited is ask asks) in
    record {
      at = record { is_place = subst (λ (x : SessionView). IsPlace x.table ask.place) (sym now) at.is_place; rising = subst (λ (x : SessionView). IsRising ask.place x.me) (sym now) at.rising };
      asks = ap (λ (x : SessionView). x.me.0.asks) now ∙ asks;
      lost = (settled_state one, told-end is ask asks c.number-session.result c.read_wait.result.0 c.number-session.ensures c.read_wait.ensures.own now one some, so.2);
      wait = (waits ∙ sym (ap (λ (x : SessionView). x.me.0.waits) now), omega (arith, is.fewer.1, waits));
    }

pub invariant_of-member-in-Some-lost_end : goal.invariant_of-member-in-Some-lost_end
invariant_of-member-in-Some-lost_end g c =
    let m = c.self.inside.member in
    let is = member m in
    let ask = c.in-Some.ask in
    let asks = ap (λ (l : Lists). l.asks) (sym m.lists) ∙ c.in-Some.is in
    let now = ap (λ (x : SeatState). session_at x m.sessions m.tickets.room m.known.pins) c.read_wait.ensures.made in
    let one = c.in-Some-settled_in.how in
    let some = sym (ap settled_of c.state.ensures) ∙ sym c.settled_in.ensures ∙ c.in-Some-settled_in.is in
    let keeps = keeps-equal m.tickets.room c.pay.new.self.room c.pay.ensures.same.2 in
    let ends = c.end_lost_wait.ensures.ended in
    let ended = ended-lost m.sessions c.number-session.result c.read_wait.result.0 now {room′ = c.pay.new.self.room} ends in
    let pays = rescheduled-owes ends ∙ ap (λ (x : SessionView). all_but ask.place x.me.0.owes) now in
    let so = lost-so m.seat.me.0.number one c.in-Some-lost_end.ended (sym c.lost_end.ensures ∙ c.in-Some-lost_end.is) in
    let h = lost-end is ask asks c.number-session.result c.read_wait.result.0 c.number-session.ensures c.read_wait.ensures.own now one some (ends.1.made, ap (λ (x : Mine). x.0.log) ends.1.now, ends.1.did)
    (c.end_lost_wait.ensures.met (settled_state one) (told-end is ask asks c.number-session.result c.read_wait.result.0 c.number-session.ensures c.read_wait.ensures.own now one some)) so.1 ended ends.1.way c.end_lost_wait.ensures.once pays keeps in
    record {
      lawful = ∣ kept (End_wait _) is (lost-order is ask asks ended) h.0 ∣₁;
      lists = (λ i. record { slow = c.pay.ensures.same.0 i; fast = c.pay.ensures.same.1 i; known = m.known.known; next = m.next; asks = None; waits = m.waits })
          ∙ ap (λ (l : Lists). record l { asks = None }) m.lists ∙ sym (ap (λ (x : SessionView). lists_seen x.me.0) ended.now);
      room = asks-nothing _;
      owed = owed-paid m m.tickets c.pay.new.self ask.place refl c.pay.ensures.owes pays;
    }

pub returns-in-Some-lost_end : goal.returns-in-Some-lost_end
returns-in-Some-lost_end g c =
    let m = c.self.inside.member in
    let is = member m in
    let ask = c.in-Some.ask in
    let asks = ap (λ (l : Lists). l.asks) (sym m.lists) ∙ c.in-Some.is in
    let now = ap (λ (x : SeatState). session_at x m.sessions m.tickets.room m.known.pins) c.read_wait.ensures.made in
    let one = c.in-Some-settled_in.how in
    let some = sym (ap settled_of c.state.ensures) ∙ sym c.settled_in.ensures ∙ c.in-Some-settled_in.is in
    let keeps = keeps-equal m.tickets.room c.pay.new.self.room c.pay.ensures.same.2 in
    let ends = c.end_lost_wait.ensures.ended in
    let ended = ended-lost m.sessions c.number-session.result c.read_wait.result.0 now {room′ = c.pay.new.self.room} ends in
    let pays = rescheduled-owes ends ∙ ap (λ (x : SessionView). all_but ask.place x.me.0.owes) now in
    let so = lost-so m.seat.me.0.number one c.in-Some-lost_end.ended (sym c.lost_end.ensures ∙ c.in-Some-lost_end.is) in
    let h = lost-end is ask asks c.number-session.result c.read_wait.result.0 c.number-session.ensures c.read_wait.ensures.own now one some (ends.1.made, ap (λ (x : Mine). x.0.log) ends.1.now, ends.1.did)
    (c.end_lost_wait.ensures.met (settled_state one) (told-end is ask asks c.number-session.result c.read_wait.result.0 c.number-session.ensures c.read_wait.ensures.own now one some)) so.1 ended ends.1.way c.end_lost_wait.ensures.once pays keeps in
    rw (← c.self.view_is, so.0) (record { joined = h.0; shown = h.1 })

-- ---- it was granted

pub end_granted-requires : goal.end_granted-requires
end_granted-requires g c =
    let m = c.self.inside.member in
    let is = member m in
    let ask = c.in-Some.ask in
    let asks = ap (λ (l : Lists). l.asks) (sym m.lists) ∙ c.in-Some.is in
    let now = ap (λ (x : SeatState). session_at x m.sessions m.tickets.room m.known.pins) c.read_wait.ensures.made in
    let one = c.in-Some-settled_in.how in
    let some = sym (ap settled_of c.state.ensures) ∙ sym c.settled_in.ensures ∙ c.in-Some-settled_in.is in
    let waits = ap (λ (l : Lists). l.waits) m.lists in
    record {
      told = told-end is ask asks c.number-session.result c.read_wait.result.0 c.number-session.ensures c.read_wait.ensures.own now one some ∙ ap (λ (how : Settled). Some (settled_state how)) (granted-so one (sym c.lost_end.ensures ∙ c.in_default-lost_end.is));
      wait = (waits ∙ sym (ap (λ (x : SessionView). x.me.0.waits) now), omega (arith, is.fewer.1, waits));
    }

pub push_reserved-requires : goal.push_reserved-requires
push_reserved-requires g c =
    let m = c.self.inside.member in
    let ask = c.in-Some.ask in
    record {
      room = m.room ask c.in-Some.is;
      below = ap (λ (l : Lists). are_below_next ask.number (all_tickets l)) m.lists ∙ asked-below (member m) ask (ap (λ (l : Lists). l.asks) (sym m.lists) ∙ c.in-Some.is);
      slow = ap (λ (l : Lists). own_at ask.place l.fast) m.lists ∙ ap (own_at ask.place) ((member m).unfast ask (ap (λ (l : Lists). l.asks) (sym m.lists) ∙ c.in-Some.is));
    }

pub invariant_of-member-2 : goal.invariant_of-member-2
invariant_of-member-2 g c =
    let m = c.self.inside.member in
    let is = member m in
    let ask = c.in-Some.ask in
    let asks = ap (λ (l : Lists). l.asks) (sym m.lists) ∙ c.in-Some.is in
    let now = ap (λ (x : SeatState). session_at x m.sessions m.tickets.room m.known.pins) c.read_wait.ensures.made in
    let one = c.in-Some-settled_in.how in
    let some = sym (ap settled_of c.state.ensures) ∙ sym c.settled_in.ensures ∙ c.in-Some-settled_in.is in
    let ended = ended-won m.sessions c.number-session.result c.read_wait.result.0 now ask asks c.end_granted.ensures.made in
    let h = won-end is ask asks c.number-session.result c.read_wait.result.0 c.number-session.ensures c.read_wait.ensures.own now one some (granted-so one (sym c.lost_end.ensures ∙ c.in_default-lost_end.is)) (_ ∷ [], ap (λ (x : SeatState). x.me.0.log) c.end_granted.ensures.made, refl)
    (ends-granted c.read_wait.new.self c.end_granted.new.self c.end_granted.ensures.made) ended.0 ended.1 ended.2 c.push_reserved.ensures.room in
    record {
      lawful = ∣ kept (End_wait _) is (won-order is ask asks ended.0) h.0 ∣₁;
      lists = (λ i. record { slow = c.push_reserved.ensures.gained i; fast = c.push_reserved.ensures.same i; known = m.known.known; next = m.next; asks = None; waits = m.waits })
          ∙ ap (λ (l : Lists). record l { slow = owned ask.place (Gain ask.number ask.mode) l.slow; asks = None }) m.lists
          ∙ sym (ap (λ (x : SessionView). lists_seen x.me.0) ended.0.now);
      room = asks-nothing _;
      owed = owed-both m c.push_reserved.ensures.owes (ap (λ (x : SeatState). x.me.0.owes) c.end_granted.ensures.made ∙ ap (λ (x : SessionView). x.me.0.owes) now);
    }

pub returns : goal.returns
returns g c =
    let m = c.self.inside.member in
    let is = member m in
    let ask = c.in-Some.ask in
    let asks = ap (λ (l : Lists). l.asks) (sym m.lists) ∙ c.in-Some.is in
    let now = ap (λ (x : SeatState). session_at x m.sessions m.tickets.room m.known.pins) c.read_wait.ensures.made in
    let one = c.in-Some-settled_in.how in
    let some = sym (ap settled_of c.state.ensures) ∙ sym c.settled_in.ensures ∙ c.in-Some-settled_in.is in
    let ended = ended-won m.sessions c.number-session.result c.read_wait.result.0 now ask asks c.end_granted.ensures.made in
    let h = won-end is ask asks c.number-session.result c.read_wait.result.0 c.number-session.ensures c.read_wait.ensures.own now one some (granted-so one (sym c.lost_end.ensures ∙ c.in_default-lost_end.is)) (_ ∷ [], ap (λ (x : SeatState). x.me.0.log) c.end_granted.ensures.made, refl)
    (ends-granted c.read_wait.new.self c.end_granted.new.self c.end_granted.ensures.made) ended.0 ended.1 ended.2 c.push_reserved.ensures.room in
    rw (← c.self.view_is) (record { joined = h.0; shown = h.1 })

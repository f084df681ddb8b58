-- The wait is settled, or another word of it is met.
use Rattle.mdl_shared.proofs.Lemmas.{IsSession, SeatState, SessionView, TableId, ap, kill-closed, kill-either, kill-ended, member, nobody-killed, owed-on, session_at, still-member, subst, sym, target-there, view_of, ◌∙◌}
use Rattle.mdl_shared.proofs.session.Session.kill.Goals as goal

pub returns-then-not-is_session-clause-joined : goal.returns-then-not-is_session-clause-joined
returns-then-not-is_session-clause-joined g c =
    let m = c.self.inside.member in
    rw (← c.self.view_is) (nobody-killed (member m) c.args.target c.args.number (sym c.is_session.ensures ∙ c.if-not-is_session.true))

pub read_wait-requires : goal.read_wait-requires
read_wait-requires g c = record { session = target-there (member c.self.inside.member) c.args.target (sym c.is_session.ensures ∙ c.if-not-is_session.false) }

-- ---- the word that is read is that of no open wait of the number

pub invariant_of-member : goal.invariant_of-member
invariant_of-member g c =
    let m = c.self.inside.member in
    let did = c.read_wait.ensures in
    let watched = (kill-closed c.args.target c.args.number c.read_wait.result.0 (sym c.is_session.ensures ∙ c.if-not-is_session.false) did.own
    (ap (λ (x : SeatState). session_at x m.sessions m.tickets.room m.known.pins) did.made) (c.is_open.ensures.other c.if-not-is_open.true)).0 in
    record {
      lawful = ∣ still-member watched.done (member m) ∣₁;
      lists = m.lists ∙ sym watched.lists;
      room = m.room;
      owed = owed-on m watched.owes;
    }

pub returns-then-not-is_open : goal.returns-then-not-is_open
returns-then-not-is_open g c =
    let m = c.self.inside.member in
    let did = c.read_wait.ensures in
    let h = kill-closed c.args.target c.args.number c.read_wait.result.0 (sym c.is_session.ensures ∙ c.if-not-is_session.false) did.own
    (ap (λ (x : SeatState). session_at x m.sessions m.tickets.room m.known.pins) did.made) (c.is_open.ensures.other c.if-not-is_open.true) in
    rw (← c.self.view_is) (record { joined = h.1; shown = h.2 })

-- ---- it is

pub settle_wait-requires-clause-session : goal.settle_wait-requires-clause-session
settle_wait-requires-clause-session g c =
    let m = c.self.inside.member in
    subst (λ (id : TableId). IsSession id c.args.target) (sym (ap (λ (x : SeatState). x.table) c.read_wait.ensures.made))
    (target-there (member m) c.args.target (sym c.is_session.ensures ∙ c.if-not-is_session.false))

pub invariant_of-member-2 : goal.invariant_of-member-2
invariant_of-member-2 g c =
    let m = c.self.inside.member in
    let at : SeatState → SessionView = λ seat. session_at seat m.sessions m.tickets.room m.known.pins in
    let did = c.settle_wait.ensures in
    let watched = (kill-either (view_of m) (at c.read_wait.new.self) (at c.settle_wait.new.self) c.args.target c.args.number c.read_wait.result.0 c.settle_wait.result.0
    (sym c.is_session.ensures ∙ c.if-not-is_session.false) c.read_wait.ensures.own (ap at c.read_wait.ensures.made) did.own (λ hit. ap at (did.settled hit)) (λ miss. ap at (did.missed miss))) in
    record {
      lawful = ∣ still-member watched.done (member m) ∣₁;
      lists = m.lists ∙ sym watched.lists;
      room = m.room;
      owed = owed-on m watched.owes;
    }

pub returns : goal.returns
returns g c =
    let m = c.self.inside.member in
    let at : SeatState → SessionView = λ seat. session_at seat m.sessions m.tickets.room m.known.pins in
    let did = c.settle_wait.ensures in
    let h = kill-ended (view_of m) (at c.read_wait.new.self) (at c.settle_wait.new.self) c.args.target c.args.number c.read_wait.result.0 c.settle_wait.result.0
    (sym c.is_session.ensures ∙ c.if-not-is_session.false) c.read_wait.ensures.own (ap at c.read_wait.ensures.made) did.own (λ hit. ap at (did.settled hit)) (λ miss. ap at (did.missed miss))
    c.is_open-2.result c.is_open-2.ensures.open c.is_open-2.ensures.other in
    rw (← c.self.view_is) (record { joined = h.0; shown = h.1 })

-- A timeout settles the session's wait, or meets it settled.
use Rattle.mdl_shared.proofs.Lemmas.{Lists, SeatState, SessionView, ap, arith, false, member, not, owed-on, session-there, session_at, settled_of, still-member, sym, timeout-already, timeout-now, timeout-refused, timeouts, true, view_of, waits-seen, ◌∙◌}
use Rattle.mdl_shared.proofs.session.Session.settle_timeout.Goals as goal
use Rattle.mdl_shared.proofs.session.Session.settle_timeout.Goals.{in-Some, in-None}

pub returns-then-is_none-clause-joined : goal.returns-then-is_none-clause-joined
returns-then-is_none-clause-joined g c =
    let m = c.self.inside.member in
    rw (← c.self.view_is) (timeout-refused (member m) (waits-seen m false (c.is_none.ensures ∙ ap not c.if-is_none.true)))

pub settle_wait-word-requires : goal.settle_wait-word-requires
settle_wait-word-requires g c =
    let m = c.self.inside.member in
    let is = member m in
    let few = is.fewer.1 in
    let waits = ap (λ (l : Lists). l.waits) m.lists in record {
      session = rw c.number-session.ensures (session-there (view_of m) is m.seat.me.0.number is.counted.0 is.counted.1);
      wait = rw waits (omega (arith, few));
    }

pub invariant_of-self-inside : goal.invariant_of-self-inside
invariant_of-self-inside g c =
    let m = c.self.inside.member in
    let did = c.settle_wait-word.ensures in
    let at : SeatState → SessionView = λ seat. session_at seat m.sessions m.tickets.room m.known.pins in
    let watched = (timeouts (member m) (waits-seen m true (c.is_none.ensures ∙ ap not c.if-is_none.false)) c.number-session.result c.settle_wait-word.result.0 c.number-session.ensures did.own
    m.waits (ap (λ (l : Lists). l.waits) m.lists) (λ hit. ap at (did.settled hit)) (λ miss. ap at (did.missed miss))) in
    record {
      lawful = ∣ still-member watched.done (member m) ∣₁;
      lists = m.lists ∙ sym watched.lists;
      room = m.room;
      owed = owed-on m watched.owes;
    }

pub returns : goal.returns
returns g c =
    let m = c.self.inside.member in
    let is = member m in
    let did = c.settle_wait-word.ensures in
    let at : SeatState → SessionView = λ seat. session_at seat m.sessions m.tickets.room m.known.pins in
    let waiting = waits-seen m true (c.is_none.ensures ∙ ap not c.if-is_none.false) in
    let state = sym (ap settled_of c.state.ensures) ∙ sym c.settled_in.ensures in
    rw (← c.self.view_is) (elim c.match-settled_in.branch [
      | in-Some w ↦ rw w.result-is (
          let h = timeout-already is waiting c.number-session.result c.settle_wait-word.result.0 c.number-session.ensures did.own m.waits (ap (λ (l : Lists). l.waits) m.lists)
          (λ hit. ap at (did.settled hit)) (λ miss. ap at (did.missed miss)) w.in-Some.how (state ∙ w.in-Some.is) in
          record { joined = h.1; shown = h.2 }
          )
      | in-None w ↦ rw w.result-is (
          let h = timeout-now is waiting c.number-session.result c.settle_wait-word.result.0 c.number-session.ensures did.own m.waits (ap (λ (l : Lists). l.waits) m.lists)
          (λ hit. ap at (did.settled hit)) (λ miss. ap at (did.missed miss)) (state ∙ w.in-None.is) in
          record { joined = h.1; shown = h.2 }
          )
    ])

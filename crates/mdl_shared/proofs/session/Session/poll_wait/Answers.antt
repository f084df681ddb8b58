-- A poll reads the word of the session's wait.
use Rattle.mdl_shared.proofs.Lemmas.{SeatState, ap, false, member, not, owed-on, poll-pending, poll-refused, poll-settled, polls, session-there, session_at, settled_of, still-member, sym, true, view_of, waits-seen, ◌∙◌}
use Rattle.mdl_shared.proofs.session.Session.poll_wait.Goals as goal
use Rattle.mdl_shared.proofs.session.Session.poll_wait.Goals.{in-Some, in-None}

pub returns-then-is_none-clause-joined : goal.returns-then-is_none-clause-joined
returns-then-is_none-clause-joined g c =
    let m = c.self.inside.member in
    rw (← c.self.view_is) (poll-refused (member m) (waits-seen m false (c.is_none.ensures ∙ ap not c.if-is_none.true)))

pub read_wait-word-requires : goal.read_wait-word-requires
read_wait-word-requires g c =
    let m = c.self.inside.member in
    let is = member m in
    record { session = rw c.number-session.ensures (session-there (view_of m) is m.seat.me.0.number is.counted.0 is.counted.1) }

pub invariant_of-self-inside : goal.invariant_of-self-inside
invariant_of-self-inside g c =
    let m = c.self.inside.member in
    let did = c.read_wait-word.ensures in
    let now = ap (λ (x : SeatState). session_at x m.sessions m.tickets.room m.known.pins) did.made in
    let watched = (polls (member m) (waits-seen m true (c.is_none.ensures ∙ ap not c.if-is_none.false)) c.number-session.result c.read_wait-word.result.0 c.number-session.ensures did.own now) in
    record {
      lawful = ∣ still-member watched.done (member m) ∣₁;
      lists = m.lists ∙ sym watched.lists;
      room = m.room;
      owed = owed-on m watched.owes;
    }

pub returns : goal.returns
returns g c =
    let m = c.self.inside.member in
    let is = member m in
    let did = c.read_wait-word.ensures in
    let now = ap (λ (x : SeatState). session_at x m.sessions m.tickets.room m.known.pins) did.made in
    let waiting = waits-seen m true (c.is_none.ensures ∙ ap not c.if-is_none.false) in
    let mine = c.number-session.ensures in
    let state = sym (ap settled_of c.state.ensures) ∙ sym c.settled_in.ensures in
    rw (← c.self.view_is) (elim c.match-settled_in.branch [
      | in-Some w ↦ rw w.result-is (
          let h = poll-settled is waiting c.number-session.result c.read_wait-word.result.0 mine did.own now w.in-Some.how (state ∙ w.in-Some.is) in
          record { joined = h.0; shown = h.1 }
          )
      | in-None w ↦ rw w.result-is (
          let h = poll-pending is waiting c.number-session.result c.read_wait-word.result.0 mine did.own now (state ∙ w.in-None.is) in
          record { joined = h.0; shown = h.1 }
          )
    ])

-- The number is that of the word of the other session's wait.
use Rattle.mdl_shared.proofs.Lemmas.{SeatState, ap, member, nobody-waits, number-met, owed-on, session_at, still-member, sym, target-there, ◌∙◌}
use Rattle.mdl_shared.proofs.session.Session.wait_of.Goals as goal

pub returns-then-not-is_session-clause-joined : goal.returns-then-not-is_session-clause-joined
returns-then-not-is_session-clause-joined g c =
    let m = c.self.inside.member in
    rw (← c.self.view_is) (nobody-waits (member m) c.args.target (sym c.is_session.ensures ∙ c.if-not-is_session.true))

pub read_wait-requires : goal.read_wait-requires
read_wait-requires g c =
    let m = c.self.inside.member in
    record { session = target-there (member m) c.args.target (sym c.is_session.ensures ∙ c.if-not-is_session.false) }

pub invariant_of-self-inside : goal.invariant_of-self-inside
invariant_of-self-inside g c =
    let m = c.self.inside.member in
    let did = c.read_wait.ensures in
    let watched = (number-met c.args.target c.read_wait.result.0 (sym c.is_session.ensures ∙ c.if-not-is_session.false) did.own (ap (λ (x : SeatState). session_at x m.sessions m.tickets.room m.known.pins) did.made)).0 in
    record {
      lawful = ∣ still-member watched.done (member m) ∣₁;
      lists = m.lists ∙ sym watched.lists;
      room = m.room;
      owed = owed-on m watched.owes;
    }

pub returns : goal.returns
returns g c =
    let m = c.self.inside.member in
    let did = c.read_wait.ensures in
    let h = number-met c.args.target c.read_wait.result.0 (sym c.is_session.ensures ∙ c.if-not-is_session.false) did.own (ap (λ (x : SeatState). session_at x m.sessions m.tickets.room m.known.pins) did.made) in
    rw (← c.self.view_is) (rw c.number_in.ensures (record { joined = h.1; shown = h.2 }))

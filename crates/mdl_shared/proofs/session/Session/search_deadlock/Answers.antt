-- A session that waits reads the word of its wait, and searches where that is unsettled. It does no deed.
use Rattle.std.proofs.Common.{◌≤◌, not, is_some, true, [], Ok, Err, refl, sym, ap, subst, ◌∙◌}
use Rattle.mdl_calls.specs.declared.answers.Search.TheVariants as found
use Rattle.std.specs.declared.alloc.AllocError.{AllocError}
use Rattle.mdl_shared.proofs.Lemmas.{Does, Found, HoldsNoLatch, KnowsPlace, Mine, OutOfMemory, SeatState, SessionView, asked, awaited, done-then, keeps-same, lists_seen, member, owed-on, place-known, polls, quietly-searched, same-stays, searches_after, session-there, session_at, settled_of, still-member, view_of, waits-seen}
use Rattle.mdl_shared.proofs.SearchCalls.{search-joins, search-settled, search-unsettled, some-there}
use Rattle.mdl_shared.proofs.session.Session.search_deadlock.Goals as goal
use Rattle.mdl_shared.proofs.session.Session.search_deadlock.Goals.{in-Ok, in-Err}

pub returns-then-is_none-clause-joined : goal.returns-then-is_none-clause-joined
returns-then-is_none-clause-joined g c =
    let m = c.self.inside.member in
    rw (← c.self.view_is) (search-joins (member m) (same-stays (view_of m)) (Ok found.NoCycle) tt tt)

pub read_wait-word-requires : goal.read_wait-word-requires
read_wait-word-requires g c =
    let m = c.self.inside.member in
    let is = member m in
    record { session = rw c.number-session.ensures (session-there (view_of m) is m.seat.me.0.number is.counted.0 is.counted.1) }

-- ---- it is settled

pub invariant_of-self-inside : goal.invariant_of-self-inside
invariant_of-self-inside g c =
    let m = c.self.inside.member in
    let did = c.read_wait-word.ensures in
    let now = ap (λ (x : SeatState). session_at x m.sessions m.tickets.room m.known.pins) did.made in
    let watched = polls (member m) (waits-seen m true (c.is_none.ensures ∙ ap not c.if-is_none.false)) c.number-session.result c.read_wait-word.result.0 c.number-session.ensures did.own now in
    record {
      lawful = ∣ still-member watched.done (member m) ∣₁;
      lists = m.lists ∙ sym watched.lists;
      room = m.room;
      owed = owed-on m watched.owes;
    }

pub returns-then-is_some : goal.returns-then-is_some
returns-then-is_some g c =
    let m = c.self.inside.member in
    let did = c.read_wait-word.ensures in
    let now = ap (λ (x : SeatState). session_at x m.sessions m.tickets.room m.known.pins) did.made in
    let h = search-settled (member m) (waits-seen m true (c.is_none.ensures ∙ ap not c.if-is_none.false)) c.number-session.result c.read_wait-word.result.0 c.number-session.ensures did.own now
    (ap is_some (sym (ap settled_of c.state.ensures) ∙ sym c.settled_in.ensures) ∙ sym c.is_some.ensures ∙ c.if-is_some.true) in
    rw (← c.self.view_is) (record { joined = h.0; shown = h.1 })

-- ---- it isn't

pub search_deadlock-requires : goal.search_deadlock-requires
search_deadlock-requires g c =
    let m = c.self.inside.member in
    let is = member m in
    let read = sym c.read_wait-word.ensures.made in
    record { free = record { idle = subst (λ (x : SeatState). HoldsNoLatch x.me) read is.idle; narrow = subst (λ (x : SeatState). x.table.slots ≤ 65536) read is.narrow.1 } }

pub invariant_of-self-inside-2 : goal.invariant_of-self-inside-2
invariant_of-self-inside-2 g c =
    let m = c.self.inside.member in
    let at : SeatState → SessionView = λ seat. session_at seat m.sessions m.tickets.room m.known.pins in
    let waiting = waits-seen m true (c.is_none.ensures ∙ ap not c.if-is_none.false) in
    let now = ap at c.read_wait-word.ensures.made in
    let watched = polls (member m) waiting c.number-session.result c.read_wait-word.result.0 c.number-session.ensures c.read_wait-word.ensures.own now in
    let did = c.search_deadlock.ensures.reads in
    let later = quietly-searched m.sessions did.0 did.1.now did.1.stays (asked (at c.read_wait-word.new.self) (ap (λ (x : SessionView). is_some x.me.0.asks) now ∙ waiting)) in
    (∣ still-member (done-then watched.done later) (member m) ∣₁, (m.lists ∙ sym (ap (λ (x : Mine). lists_seen x.0) did.1.now ∙ watched.lists), (m.room, (owed-on m (ap (λ (x : Mine). x.0.owes) did.1.now ∙ watched.owes), tt))))

pub returns : goal.returns
returns g c =
    let m = c.self.inside.member in
    let at : SeatState → SessionView = λ seat. session_at seat m.sessions m.tickets.room m.known.pins in
    let waiting = waits-seen m true (c.is_none.ensures ∙ ap not c.if-is_none.false) in
    let now = ap at c.read_wait-word.ensures.made in
    let did = c.search_deadlock.ensures.reads in
    let later = quietly-searched m.sessions did.0 did.1.now did.1.stays (asked (at c.read_wait-word.new.self) (ap (λ (x : SessionView). is_some x.me.0.asks) now ∙ waiting)) in
    let none = ap is_some (sym (ap settled_of c.state.ensures) ∙ sym c.settled_in.ensures) ∙ sym c.is_some.ensures ∙ c.if-is_some.false in
    let made : Does [] (at c.read_wait-word.new.self).me (at c.search_deadlock.new.seat).me = (did.1.made, ap (λ (x : Mine). x.0.log) did.1.now, did.1.did) in
    let ask = some-there m.seat.me.0.asks waiting in
    let known : KnowsPlace c.read_wait-word.new.self.me.0 ask.0.place =
    subst (λ (x : SessionView). KnowsPlace x.me.0 ask.0.place) (sym now) (place-known (member m) ask.0.place (awaited (member m) ask.0 ask.1)) in
    rw (← c.self.view_is) (elim c.match-search_deadlock.branch [
      | in-Ok w ↦ rw w.result-is (
          let h = search-unsettled (member m) waiting c.number-session.result c.read_wait-word.result.0 c.number-session.ensures c.read_wait-word.ensures.own now none later made
          (keeps-same m.tickets.room) (ap (λ (x : Mine). x.0.owes) did.1.now) (Ok w.in-Ok.found) (w.in-Ok.ensures.own, w.in-Ok.ensures.searched, λ none. w.in-Ok.ensures.ended ask.0.place known ∙ ap (λ (f : Found). searches_after {E = AllocError} (Ok f) true c.read_wait-word.new.self.me.0.searches) none) tt in
          record { joined = h.0; shown = h.1 }
          )
      | in-Err w ↦ rw w.result-is (
          let h = search-unsettled (member m) waiting c.number-session.result c.read_wait-word.result.0 c.number-session.ensures c.read_wait-word.ensures.own now none later made
          (keeps-same m.tickets.room) (ap (λ (x : Mine). x.0.owes) did.1.now) (Err OutOfMemory) tt (refl, w.in-Err.ensures.nothing, (w.in-Err.ensures.searched.0, w.in-Err.ensures.searched.1)) in
          record { joined = h.0; shown = h.1 }
          )
    ])

-- The session's own lists say whether it may give up the pin, and then it has given it up.
use Rattle.std.proofs.Common.{◌≡◌, ℕ, Bool, sym, ap, subst, ◌∙◌}
use Rattle.mdl_shared.proofs.FirstLemmas.{Done, Unpin, interleaved, is_used}
use Rattle.mdl_shared.proofs.Lemmas.{IsMember, Joins, Lists, Member, Shows, all_tickets, data_of, kept, member, session_at, unpin-joins, unpin-order, unpin-shows, unpinned-joins, unpinned-shows, used-joins, used-shows, used_at, view_of}
use Rattle.mdl_visits.specs.KnownLists.{KnownList}
use Rattle.mdl_shared.proofs.session.Session.unpin.Goals as goal

-- whether the place is in use, by its value
in-use-seen : (m : Member) (place : ℕ) {result used : Bool} → result ≡ is_used place (interleaved m.tickets.slow m.tickets.fast) m.asks m.seat.me.0.owes
    → result ≡ used → used_at place (view_of m) ≡ used
in-use-seen m place told is = ap (λ (l : Lists). is_used place (all_tickets l) l.asks m.seat.me.0.owes) (sym m.lists) ∙ sym told ∙ is

pub returns-then-not-is_pinned : goal.returns-then-not-is_pinned
returns-then-not-is_pinned g c =
    let is = member c.self.inside.member in
    let none = sym c.is_pinned.ensures ∙ c.if-not-is_pinned.true in
    rw (← c.self.view_is) (record { joined = unpinned-joins is c.args.place none; shown = unpinned-shows is c.args.place none })

pub returns-then-is_in_use : goal.returns-then-is_in_use
returns-then-is_in_use g c =
    let m = c.self.inside.member in
    let pinned = sym c.is_pinned.ensures ∙ c.if-not-is_pinned.false in
    let some = in-use-seen m c.args.place c.is_in_use.ensures c.if-is_in_use.true in
    rw (← c.self.view_is) (record { joined = used-joins (member m) c.args.place pinned; shown = used-shows (member m) c.args.place pinned some })

pub invariant_of-self-inside : goal.invariant_of-self-inside
invariant_of-self-inside g c =
    let m = c.self.inside.member in
    let is = member m in
    let place = c.args.place in
    let pinned = sym c.is_pinned.ensures ∙ c.if-not-is_pinned.false in
    let none = in-use-seen m place c.is_in_use.ensures c.if-is_in_use.false in
    record {
      lawful = ∣ subst (λ (k : KnownList). IsMember (session_at m.seat m.sessions m.tickets.room k.pins)) (sym c.unpin.ensures.pins)
          (kept (Unpin _ _) is (unpin-order is place pinned none) (unpin-joins is place pinned none)) ∣₁;
      lists = ap (λ (k : KnownList). record { slow = m.tickets.slow; fast = m.tickets.fast; known = k.known; next = m.next; asks = m.asks; waits = m.waits }) c.unpin.ensures.pins ∙ m.lists;
      room = m.room;
      owed = m.owed;
    }

pub returns : goal.returns
returns g c =
    let m = c.self.inside.member in
    let s = view_of m in
    let is = member m in
    let place = c.args.place in
    let pinned = sym c.is_pinned.ensures ∙ c.if-not-is_pinned.false in
    let none = in-use-seen m place c.is_in_use.ensures c.if-is_in_use.false in
    rw (← c.self.view_is) (record {
      joined = subst (λ (k : KnownList). Joins (data_of s) (Unpin s.me.0.number place) Done (data_of (session_at m.seat m.sessions m.tickets.room k.pins)))
          (sym c.unpin.ensures.pins) (unpin-joins is place pinned none);
      shown = subst (λ (k : KnownList). Shows (Unpin s.me.0.number place) Done s (session_at m.seat m.sessions m.tickets.room k.pins))
          (sym c.unpin.ensures.pins) (unpin-shows is place pinned none);
    })

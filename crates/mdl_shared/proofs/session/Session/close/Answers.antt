-- A session that is closed has no ticket, slow or fast, owes nothing, and needs no pin. One that isn't has a ticket, or owes a place a reschedule.
use Rattle.std.proofs.Common.{◌≡◌, length, refl, sym, ap, subst, ◌∙◌, arith, eqb-true}
use Rattle.mdl_shared.proofs.Lemmas.{IsMember, interleaved, length-interleaved, member, none-owed, session_at}
use Rattle.mdl_shared.proofs.ClosedSessions.{has-nothing, unpinned-member}
use Rattle.mdl_visits.specs.KnownLists.{KnownList}
use Rattle.mdl_shared.proofs.session.Session.close.Goals as goal

pub invariant_of-member : goal.invariant_of-member
invariant_of-member g c =
    let m = c.self.inside.member in
    let none : length (interleaved m.tickets.slow m.tickets.fast) ≡ 0 = eqb-true (length (interleaved m.tickets.slow m.tickets.fast)) 0 (sym c.is_empty.ensures ∙ c.if-not-is_empty.false) in
    let nothing = has-nothing m none (sym c.is_some.ensures ∙ c.if-is_some.false) in
    record {
      lawful = ∣ subst (λ (k : KnownList). IsMember (session_at m.seat m.sessions m.tickets.room k.pins)) (sym c.unpin_all.ensures.pins) (unpinned-member (member m) nothing) ∣₁;
      lists = ap (λ (k : KnownList). record { slow = m.tickets.slow; fast = m.tickets.fast; known = k.known; next = m.next; asks = m.asks; waits = m.waits }) c.unpin_all.ensures.pins ∙ m.lists;
      room = m.room;
      owed = m.owed;
    }

pub invariant_of-result-clause-empty : goal.invariant_of-result-clause-empty
invariant_of-result-clause-empty g c =
    let list = c.self.inside.member.tickets in
    let none : length (interleaved list.slow list.fast) ≡ 0 = eqb-true (length (interleaved list.slow list.fast)) 0 (sym c.is_empty.ensures ∙ c.if-not-is_empty.false) in
    let parts = length-interleaved list.slow list.fast in
    (omega arith, omega arith)

pub invariant_of-result-clause-paid : goal.invariant_of-result-clause-paid
invariant_of-result-clause-paid g c =
    let m = c.self.inside.member in
    none-owed m.seat.me.0.owes (λ q. sym (m.owed q) ∙ (rw c.in_default.is at c.first_owed.ensures) q)

pub returns-in-Some : goal.returns-in-Some
returns-in-Some g c =
    let m = c.self.inside.member in
    let none = eqb-true (length (interleaved m.tickets.slow m.tickets.fast)) 0 (sym c.is_empty.ensures ∙ c.if-not-is_empty.false) in
    let first = rw c.in-Some.is at c.first_owed.ensures in
    rw (← c.self.view_is) (
      has-nothing m none (sym c.is_some.ensures ∙ c.if-is_some.false),
      (sym (m.owed c.in-Some.place) ∙ first.1, λ q before. sym (m.owed q) ∙ first.2 q before),
      (member m).owed c.in-Some.place (sym (m.owed c.in-Some.place) ∙ first.1),
      refl,
    )

-- The ticket goes, be it slow or fast, or there is none.
use Rattle.std.proofs.Common.{◌≡◌, ℕ, Bool, [], ◌∷◌, Some, None, false, inr, is_some, refl, sym, ap, subst, ◌∙◌}
use Rattle.mdl_shared.proofs.Lemmas.{KeepsRoom, Lose, NotHeld, NotWaited, Release, Room, SessionTicket, done-order, fast-seen, fast_found, has_number, held-seen, holds-ticket, holds-told, kept, lists-done, lists-rescheduled, loses-slow, member, numbered, option_map, owed-paid, refused, rescheduled, rescheduled-owes, room-kept, same-stays, slow-else, slow-there, spared, speaks, tickets_seen, view_of}
use Rattle.mdl_shared.proofs.Members.{fast-struck}
use Rattle.mdl_shared.proofs.ReleaseCalls.{released-fast, released-slow}
use Rattle.mdl_shared.proofs.session.Session.release.Goals as goal

-- ---- a fast one

pub give_up_fast-requires : goal.give_up_fast-requires
give_up_fast-requires g c =
    let t = c.in-Some.held in
    let fast = c.self.inside.member.tickets.fast in
    let its : numbered c.args.id fast ≡ Some t = sym c.find.ensures.fast ∙ ap fast_found c.in-Some.is ∙ rw c.if-fast.true refl in
    record { held = subst (λ (n : ℕ). numbered n fast ≡ Some t) (sym (has_number c.args.id t fast its)) its }

pub returns-then-fast : goal.returns-then-fast
returns-then-fast g c =
    let m = c.self.inside.member in
    let t = c.in-Some.held in
    let its = fast-seen m c.args.id (Some t) (sym (ap fast_found c.in-Some.is ∙ rw c.if-fast.true refl) ∙ c.find.ensures.fast) in
    let gone = c.give_up_fast.ensures in
    let both = released-fast c.args.id t (member m) its gone.lost gone.did gone.given_up gone.searches gone.room in
    rw (← c.self.view_is) (record { joined = both.0; shown = both.1 })

-- ---- none

pub returns-in_default-clause-joined : goal.returns-in_default-clause-joined
returns-in_default-clause-joined g c =
    let m = c.self.inside.member in
    let s = view_of m in
    let none = held-seen m c.args.id None (sym (ap (option_map (λ (f : SessionTicket × Bool). f.0)) c.in_default.is) ∙ c.find.ensures.found) in
    rw (← c.self.view_is)
    (refused s s (Release s.me.0.number c.args.id) NotHeld (same-stays s) (speaks (member m)) refl
    (holds-told c.args.id (tickets_seen s.me.0) false (ap is_some none)) (λ state how is. cc) tt)

-- ---- a slow one

pub release-requires : goal.release-requires
release-requires g c =
    let m = c.self.inside.member in
    let id = c.args.id in
    let t = c.in-Some.held in
    let none = fast-seen m id None (sym (ap fast_found c.in-Some.is ∙ rw c.if-fast.false refl) ∙ c.find.ensures.fast) in
    let its = held-seen m id (Some t) (sym (ap (option_map (λ (f : SessionTicket × Bool). f.0)) c.in-Some.is) ∙ c.find.ensures.found) in
    let held = holds-ticket m id t (sym c.find.ensures.found ∙ ap (option_map (λ (f : SessionTicket × Bool). f.0)) c.in-Some.is) in record {
      at = held.at;
      known = held.known;
      unwaited = subst (NotWaited m.seat.me.0) held.number held.unwaited;
      held = slow-there (member m) id t (slow-else (member m) id t none its);
    }

pub invariant_of-member : goal.invariant_of-member
invariant_of-member g c =
    let m = c.self.inside.member in
    let is = member m in
    let id = c.args.id in
    let t = c.in-Some.held in
    let none = fast-seen m id None (sym (ap fast_found c.in-Some.is ∙ rw c.if-fast.false refl) ∙ c.find.ensures.fast) in
    let its = held-seen m id (Some t) (sym (ap (option_map (λ (f : SessionTicket × Bool). f.0)) c.in-Some.is) ∙ c.find.ensures.found) in
    let slow = slow-else is id t none its in
    let visit = c.release.ensures.released in
    let keeps = subst (λ (r : Room). KeepsRoom 0 m.tickets.room r) (sym c.pay.ensures.same.2) c.strike.ensures.rest.room in
    let done = rescheduled m.seat c.release.new.seat m.sessions {room = m.tickets.room} {room′ = c.pay.new.self.room} {pins = m.known.pins} (loses-slow is t.place id t slow) visit in
    let both = released-slow m.seat c.release.new.seat m.sessions id {room = m.tickets.room} {room′ = c.pay.new.self.room} {pins = m.known.pins} t is its slow none visit c.release.ensures.step c.release.ensures.once keeps in record {
      lawful = ∣ kept (Release _ _) is (done-order done is (inr refl)) both.0 ∣₁;
      lists = lists-done m t.place (Lose id ∷ []) (lists-rescheduled visit) (c.pay.ensures.same.0 ∙ c.strike.ensures.struck.0) (fast-struck m t.place id (spared is id t slow) (c.pay.ensures.same.1 ∙ c.strike.ensures.struck.1));
      room = λ ask asks. room-kept m.tickets c.pay.new.self keeps (m.room ask asks);
      owed = owed-paid m c.strike.new.self c.pay.new.self t.place c.strike.ensures.rest.owes c.pay.ensures.owes (rescheduled-owes visit);
    }

pub returns : goal.returns
returns g c =
    let m = c.self.inside.member in
    let is = member m in
    let id = c.args.id in
    let t = c.in-Some.held in
    let none = fast-seen m id None (sym (ap fast_found c.in-Some.is ∙ rw c.if-fast.false refl) ∙ c.find.ensures.fast) in
    let its = held-seen m id (Some t) (sym (ap (option_map (λ (f : SessionTicket × Bool). f.0)) c.in-Some.is) ∙ c.find.ensures.found) in
    let keeps = subst (λ (r : Room). KeepsRoom 0 m.tickets.room r) (sym c.pay.ensures.same.2) c.strike.ensures.rest.room in
    let both = released-slow m.seat c.release.new.seat m.sessions id {room = m.tickets.room} {room′ = c.pay.new.self.room} {pins = m.known.pins} t is its (slow-else is id t none its) none c.release.ensures.released c.release.ensures.step c.release.ensures.once keeps in
    rw (← c.self.view_is) (record { joined = both.0; shown = both.1 })

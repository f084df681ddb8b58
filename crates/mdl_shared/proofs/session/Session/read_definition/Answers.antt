-- What stands under a ticket is read, and noted under each ticket of its place.
use Rattle.std.proofs.Common.{[], false, if◌then◌else◌, inr, is_some, None, Option, Some, refl, ap, ◌∙◌}
use Rattle.mdl_shared.proofs.Lemmas.{AtItsTable, NotHeld, Read_definition, SessionTicket, Visits, does_learns, done-nothing, done-order, held-seen, holds-told, keeps-same, kept, lists-done, lists-noted, lists-visited, may-visit, member, noted-by, noted-order, noted-owes, owed-both, owed-visited, own-shows, read-joins, read-shows, refused, room-kept, same-stays, slow-there, speaks, ticket-known, tickets_seen, unread-joins, unread-shows, unwaited, view_of, visited}
use Rattle.mdl_shared.proofs.session.Session.read_definition.Goals as goal

pub returns-in_default : goal.returns-in_default
returns-in_default g c =
    let m = c.self.inside.member in
    let s = view_of m in
    let call = Read_definition s.me.0.number c.args.id in
    let none = held-seen m c.args.id c.get.result c.get.ensures.found ∙ c.in_default.is in
    rw (← c.self.view_is) (record {
      joined = refused s s call NotHeld (same-stays s) (speaks (member m)) refl (holds-told c.args.id (tickets_seen s.me.0) false (ap is_some none)) (λ state how is. cc) tt;
      shown = own-shows call NotHeld s (ap (λ (o : Option SessionTicket). if is_some o then None else Some NotHeld) none);
    })

pub read_definition-requires : goal.read_definition-requires
read_definition-requires g c =
    let m = c.self.inside.member in
    let is = member m in
    let t = c.in-Some.held in
    let its = held-seen m c.args.id c.get.result c.get.ensures.found ∙ c.in-Some.is in
    record { at = may-visit is t.place (ticket-known is c.args.id t its) }

pub invariant_of-member : goal.invariant_of-member
invariant_of-member g c =
    let m = c.self.inside.member in
    let is = member m in
    let its = held-seen m c.args.id c.get.result c.get.ensures.found ∙ c.in-Some.is in
    let did = c.in_default-read_definition.ensures in
    let visit : AtItsTable m.seat c.read_definition.new.seat (Visits c.in-Some.held.place []) = (did.quiet.0, did.unchanged) in
    let done = visited m.seat c.read_definition.new.seat m.sessions refl visit in
    record {
      lawful = ∣ kept (Read_definition _ _) is (done-order done is (inr refl)) (unread-joins is c.args.id c.in-Some.held its (done-nothing done)) ∣₁;
      lists = lists-done m c.in-Some.held.place [] (lists-visited visit) refl refl;
      room = m.room;
      owed = owed-visited m visit;
    }

pub returns-in_default-read_definition : goal.returns-in_default-read_definition
returns-in_default-read_definition g c =
    let m = c.self.inside.member in
    let is = member m in
    let its = held-seen m c.args.id c.get.result c.get.ensures.found ∙ c.in-Some.is in
    let did = c.in_default-read_definition.ensures in
    rw (← c.self.view_is) (record {
      joined = unread-joins is c.args.id c.in-Some.held its (done-nothing (visited m.seat c.read_definition.new.seat m.sessions {room = m.tickets.room} {room′ = m.tickets.room} {pins = m.known.pins} refl (did.quiet.0, did.unchanged)));
      shown = unread-shows is c.args.id c.in-Some.held its did.quiet.0 refl did.unchanged did.quiet.1 did.once (keeps-same m.tickets.room);
    })

pub invariant_of-member-2 : goal.invariant_of-member-2
invariant_of-member-2 g c =
    let m = c.self.inside.member in
    let is = member m in
    let its = held-seen m c.args.id c.get.result c.get.ensures.found ∙ c.in-Some.is in
    let did = c.in-Ok.ensures in
    let noted = noted-by c.in-Ok.standing m.seat c.read_definition.new.seat m.sessions did.quiet.0 did.learnt.0 in
    record {
      lawful = ∣ kept (Read_definition _ _) is (noted-order noted is) (read-joins is c.args.id c.in-Some.held its c.in-Ok.standing noted did.follows) ∣₁;
      lists = lists-noted m noted refl c.note_all.ensures.noted;
      room = λ ask asks. room-kept m.tickets c.note_all.new.self c.note_all.ensures.rest.room (m.room ask asks);
      owed = owed-both m c.note_all.ensures.rest.owes (noted-owes noted);
    }

pub returns : goal.returns
returns g c =
    let m = c.self.inside.member in
    let is = member m in
    let id = c.args.id in
    let t = c.in-Some.held in
    let its = held-seen m id c.get.result c.get.ensures.found ∙ c.in-Some.is in
    let did = c.in-Ok.ensures in
    let step = did.learnt.1 in
    let noted = noted-by c.in-Ok.standing m.seat c.read_definition.new.seat m.sessions did.quiet.0 did.learnt.0 in
    rw (← c.self.view_is) (record {
      joined = read-joins is id t its c.in-Ok.standing noted did.follows;
      shown = read-shows is id t its c.in-Ok.standing noted did.follows (does_learns m.seat.me c.read_definition.new.seat.me t.place c.in-Ok.standing did.learnt.0) did.quiet.1
          (step.0, step.1, (step.2, λ slow. step.3 id (slow-there is id t slow) (unwaited is id (ap is_some its)))) did.once c.note_all.ensures.rest.room;
    })

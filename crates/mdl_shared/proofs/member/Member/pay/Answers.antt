-- The session gives up nothing, and its flag of the place goes down.
use Rattle.mdl_shared.proofs.Lemmas.{[], keeps-equal, lists-done, lists-rescheduled, member, owed-paid, refl, rescheduled, rescheduled-owes, room-kept, still-member}
use Rattle.mdl_shared.proofs.member.Member.pay.Goals as goal

pub invariant_of-self : goal.invariant_of-self
invariant_of-self g c =
    let m = c.args.self.now in
    let visit = c.reschedule.ensures.rescheduled in
    let keeps = keeps-equal m.tickets.room c.pay.new.self.room c.pay.ensures.same.2 in
    let done = rescheduled {place = c.args.place} {ds = []} m.seat c.reschedule.new.seat m.sessions {room = m.tickets.room} {room′ = c.pay.new.self.room} {pins = m.known.pins} refl visit in record {
      lawful = ∣ still-member done (member m) ∣₁;
      lists = lists-done m c.args.place [] (lists-rescheduled visit) c.pay.ensures.same.0 c.pay.ensures.same.1;
      room = λ ask asks. room-kept m.tickets c.pay.new.self keeps (m.room ask asks);
      owed = owed-paid m m.tickets c.pay.new.self c.args.place refl c.pay.ensures.owes (rescheduled-owes visit);
    }

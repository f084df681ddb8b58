-- The fast tickets of the place are slow ones then, or stay as they were for want of room.
use Rattle.mdl_shared.proofs.Lemmas.{Lists, Mine, ap, fast-materialised, inr, lists-made, lists-materialised, may-make-slow, member, owed-both, owed-stepped, own-fast_pinned, own_at, quiet-made, room-kept, some-seen, steps-visited, still-member, ◌∙◌}
use Rattle.mdl_shared.proofs.member.Member.materialise_at.Goals as goal

-- ---- the visit

pub kind_at-kind-requires : goal.kind_at-kind-requires
kind_at-kind-requires g c = record { pinned = own-fast_pinned c.args.self.now c.args.place c.requires.some }

pub materialise-requires-clause-at : goal.materialise-requires-clause-at
materialise-requires-clause-at g c = (may-make-slow c.args.self.now c.args.place c.kind_at-kind.result c.kind_at-kind.ensures).at

pub materialise-requires-clause-knows : goal.materialise-requires-clause-knows
materialise-requires-clause-knows g c = (may-make-slow c.args.self.now c.args.place c.kind_at-kind.result c.kind_at-kind.ensures).knows

pub materialise-requires-clause-once : goal.materialise-requires-clause-once
materialise-requires-clause-once g c = (may-make-slow c.args.self.now c.args.place c.kind_at-kind.result c.kind_at-kind.ensures).once

pub materialise-requires-clause-these : goal.materialise-requires-clause-these
materialise-requires-clause-these g c = c.requires.these ∙ ap (λ (l : Lists). own_at c.args.place l.fast) c.args.self.now.lists

-- ---- there was no room

pub invariant_of-self : goal.invariant_of-self
invariant_of-self g c =
    let m = c.args.self.now in
    let made = steps-visited m.seat c.materialise.new.seat c.in-Err.ensures.refused.0 in record {
      lawful = ∣ still-member (quiet-made {place = 0} m.seat c.materialise.new.seat m.sessions {room = m.tickets.room} {room′ = m.tickets.room} {pins = m.known.pins} made).done (member m) ∣₁;
      lists = lists-made m c.materialise.new.seat made;
      room = m.room;
      owed = owed-stepped m made.1;
    }

pub returns-in-Err-clause-stops : goal.returns-in-Err-clause-stops
returns-in-Err-clause-stops g c = inr c.in-Err.ensures.refused.2

-- ---- they are slow

pub returns-clause-once : goal.returns-clause-once
returns-clause-once g c =
    let m = c.args.self.now in
    c.in_default.ensures.materialised.0.1.once (some-seen m c.args.place c.requires.some)

pub invariant_of-self-2 : goal.invariant_of-self-2
invariant_of-self-2 g c =
    let m = c.args.self.now in
    let moved = c.in_default.ensures.materialised.0 in record {
      lawful = ∣ still-member (fast-materialised m.seat c.materialise.new.seat m.sessions (member m) moved).done (member m) ∣₁;
      lists = lists-materialised m c.materialise.new.seat moved c.make_slow.ensures.slow c.make_slow.ensures.fast;
      room = λ ask asks. room-kept m.tickets c.make_slow.new.self c.make_slow.ensures.rest.room (m.room ask asks);
      owed = owed-both m c.make_slow.ensures.rest.owes (ap (λ (x : Mine). x.0.owes) moved.1.now);
    }

pub returns-clause-done : goal.returns-clause-done
returns-clause-done g c =
    let m = c.args.self.now in
    fast-materialised m.seat c.materialise.new.seat m.sessions (member m) c.in_default.ensures.materialised.0

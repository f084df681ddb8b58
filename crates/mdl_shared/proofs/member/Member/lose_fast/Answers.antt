-- The ticket is the session's only one of its number, and goes. Its place may be owed a reschedule then.
use Rattle.mdl_shared.proofs.Lemmas.{KeepsRoom, Room, fast-place, fast-released, fast-struck, lists-released, may-release, member, owed-both, owed-more, released-due, released-quiet, room-kept, seen, still, subst, sym, ◌∙◌}
use Rattle.mdl_shared.proofs.member.Member.lose_fast.Goals as goal

pub release_fast-owes-requires-clause-place : goal.release_fast-owes-requires-clause-place
release_fast-owes-requires-clause-place c = (fast-place c.args.self.now c.args.held c.requires.held).is_place

pub release_fast-owes-requires-clause-lost : goal.release_fast-owes-requires-clause-lost
release_fast-owes-requires-clause-lost c = may-release c.args.self.now c.args.held c.increment-one.result c.requires.held c.increment-one.ensures

-- ---- the session is in order then

pub invariant_of-self : goal.invariant_of-self
invariant_of-self c =
    let m = c.args.self.now in
    let t = c.args.held in
    let seat = c.release_fast-owes.new.seat in
    let released = c.release_fast-owes.ensures.released in
    let same = rw c.keep_guess.ensures at c.owe.ensures.same in
    let keeps = subst (λ (r : Room). KeepsRoom 0 m.tickets.room r) (sym same.2) c.strike.ensures.rest.room in record {
      lawful = ∣ still m t c.requires.held seat c.release_fast-owes.result released c.owe.new.self.room ∣₁;
      lists = lists-released m seat released (fast-struck m t c.requires.held (same.0 ∙ c.strike.ensures.struck.0)) (same.1 ∙ c.strike.ensures.struck.1);
      room = λ ask asks. room-kept m.tickets c.owe.new.self keeps (m.room ask asks);
      owed = owed-more m c.strike.new.self c.owe.new.self t.place c.strike.ensures.rest.owes (rw c.keep_guess.ensures at c.owe.ensures.owes) (released-due released.1 c.if-owes.true);
    }

pub invariant_of-self-else-owes : goal.invariant_of-self-else-owes
invariant_of-self-else-owes c =
    let m = c.args.self.now in
    let t = c.args.held in
    let seat = c.release_fast-owes.new.seat in
    let released = c.release_fast-owes.ensures.released in rw c.keep_guess.ensures (record {
      lawful = ∣ still m t c.requires.held seat c.release_fast-owes.result released c.strike.new.self.room ∣₁;
      lists = lists-released m seat released (fast-struck m t c.requires.held c.strike.ensures.struck.0) c.strike.ensures.struck.1;
      room = λ ask asks. room-kept m.tickets c.strike.new.self c.strike.ensures.rest.room (m.room ask asks);
      owed = owed-both m c.strike.ensures.rest.owes (released-quiet released.1 c.if-owes.false);
    })

pub returns-then-owes-clause-lost : goal.returns-then-owes-clause-lost
returns-then-owes-clause-lost c =
    let m = c.args.self.now in
    fast-released m.seat c.release_fast-owes.new.seat m.sessions (member m) (seen m c.args.held c.requires.held) c.release_fast-owes.ensures.released

pub returns-else-owes-clause-lost : goal.returns-else-owes-clause-lost
returns-else-owes-clause-lost c =
    let m = c.args.self.now in
    fast-released m.seat c.release_fast-owes.new.seat m.sessions (member m) (seen m c.args.held c.requires.held) c.release_fast-owes.ensures.released

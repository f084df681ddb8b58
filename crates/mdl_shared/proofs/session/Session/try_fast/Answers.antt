-- The try is made by the member, perhaps after it made room.
use Rattle.mdl_shared.proofs.Lemmas.{member, member-room, tried-after, view_of, ◌∙◌}
use Rattle.mdl_shared.proofs.session.Session.try_fast.Goals as goal

pub invariant_of-self-inside-clause-lawful : goal.invariant_of-self-inside-clause-lawful
invariant_of-self-inside-clause-lawful g c = ∣ member-room (member c.self.inside.member) c.reserve.new.self.room ∣₁

pub invariant_of-self-inside-clause-owed : goal.invariant_of-self-inside-clause-owed
invariant_of-self-inside-clause-owed g c = λ q. c.reserve.ensures.owes q ∙ c.self.inside.member.owed q

pub returns-then-has_room-clause-tried : goal.returns-then-has_room-clause-tried
returns-then-has_room-clause-tried g c = rw (← c.self.view_is) c.try_with_room.ensures.tried

pub returns-clause-tried : goal.returns-clause-tried
returns-clause-tried g c =
    let m = c.self.inside.member in
    let now = c.try_reserved.new.self in
    rw (← c.self.view_is)
    (tried-after (view_of m) (view_of now) c.reserve.new.self.room c.reserve.ensures.kept c.args.place c.args.mode c.try_reserved.result c.try_reserved.ensures.tried)

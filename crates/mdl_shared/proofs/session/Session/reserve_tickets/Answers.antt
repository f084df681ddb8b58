-- The table has no more places than tickets can tell, and the session has what it had.
use Rattle.mdl_shared.proofs.Lemmas.{arith, member, member-room, ◌∙◌}
use Rattle.mdl_shared.proofs.session.Session.reserve_tickets.Goals as goal

pub reserve_many-requires : goal.reserve_many-requires
reserve_many-requires g c = omega (arith, c.slot_count-places.ensures, (member c.self.inside.member).narrow.1)

pub invariant_of-self-inside-clause-lawful : goal.invariant_of-self-inside-clause-lawful
invariant_of-self-inside-clause-lawful g c = ∣ member-room (member c.self.inside.member) c.reserve_many.new.self.room ∣₁

pub invariant_of-self-inside-clause-owed : goal.invariant_of-self-inside-clause-owed
invariant_of-self-inside-clause-owed g c = λ q. c.reserve_many.ensures.owes q ∙ c.self.inside.member.owed q

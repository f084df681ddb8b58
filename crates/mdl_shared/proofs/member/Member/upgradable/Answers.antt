-- The session pins the place of its ticket.
use Rattle.mdl_shared.proofs.Lemmas.{own-pinned, sym, ◌∙◌}
use Rattle.mdl_shared.proofs.member.Member.upgradable.Goals as goal

pub can_have-requires : goal.can_have-requires
can_have-requires c = record { pinned = own-pinned c.args.self.now c.args.id c.in-Some.held (sym c.get.ensures.found ∙ c.in-Some.is) }

-- The session pins the place of its ticket.
use Rattle.mdl_shared.proofs.Lemmas.{own-pinned, sym, ◌∙◌}
use Rattle.mdl_shared.proofs.member.Member.downgradable.Goals as goal

pub is_fit-requires : goal.is_fit-requires
is_fit-requires c = record { pinned = own-pinned c.args.self.now c.args.id c.in-Some.held (sym c.get.ensures.found ∙ c.in-Some.is) }

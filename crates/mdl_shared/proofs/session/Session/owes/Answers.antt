-- The flags say what the session owes.
use Rattle.std.proofs.Common.{◌∙◌}
use Rattle.mdl_shared.proofs.session.Session.owes.Goals as goal

pub returns : goal.returns
returns g c = rw (← c.self.view_is) (rw c.from.ensures at c.owes.ensures ∙ c.self.inside.member.owed c.args.place)

-- The index by place has each ticket.
use Rattle.std.proofs.Common.{◌∙◌}
use Rattle.mdl_context.proofs.KnownLemmas.{needed-told}
use Rattle.mdl_context.proofs.holdings.Holdings.is_needed.Goals as goal

pub returns : goal.returns
returns c = λ who. rw (← c.self.view_is)
    (c.needs.ensures ∙ needed-told c.self.inside.tickets.items c.self.inside.by_place c.self.inside.wait c.args.place c.self.invariant.0)

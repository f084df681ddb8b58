use Rattle.mdl_context.proofs.SearchLemmas.{placed}
use Rattle.mdl_context.proofs.holdings.Holdings.position.Goals as goal

pub returns-clause-has : goal.returns-clause-has
returns-clause-has c = rw (← c.self.view_is) (placed c.args.id c.self.inside.tickets.items c.index_of.result (rw c.deref.ensures.value at c.index_of.ensures))

pub returns-clause-here : goal.returns-clause-here
returns-clause-here c = rw (← c.self.view_is) (rw c.deref.ensures.value at c.index_of.ensures)

-- The number is taken out where the search by halves ends.
use Rattle.std.proofs.Common.{sym, ◌∙◌}
use Rattle.mdl_context.proofs.IndexLemmas.{found_taken, missed_stays}
use Rattle.mdl_context.proofs.numbers.Numbers.search_and_remove.Goals as goal

pub returns-clause-numbers : goal.returns-clause-numbers
returns-clause-numbers c =
    rw (← c.self.view_is)
    (c.remove.ensures.items ∙ found_taken c.self.inside.list.items c.args.id c.in-Ok.at _ (rw (← c.self.view_is) at c.requires) (rw c.deref.ensures.value at c.binary_search.ensures.position) c.in-Ok.is)

pub returns-in_default-clause-numbers : goal.returns-in_default-clause-numbers
returns-in_default-clause-numbers c =
    rw (← c.self.view_is)
    (sym (missed_stays c.self.inside.list.items c.args.id _ (rw (← c.self.view_is) at c.requires) (rw c.deref.ensures.value at c.binary_search.ensures.position) c.in_default.not-Ok))

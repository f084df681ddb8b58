-- The last pass takes the place of the first.
use Rattle.std.proofs.Common.{rules}
use Rattle.std.proofs.lemmas.List.Sorted.{IsPermutation-swap_remove}
use Rattle.mdl_script.proofs.PassLemmas.{first-is}
use Rattle.mdl_script.proofs.turns.take_first.Goals as goal

pub returns-clause-first : goal.returns-clause-first
returns-clause-first c = first-is c.args.passes.now.items c.swap_remove.result c.requires c.swap_remove.ensures.value

pub returns-clause-others : goal.returns-clause-others
returns-clause-others c = search (rules, IsPermutation-swap_remove)

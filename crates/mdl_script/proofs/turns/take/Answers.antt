-- There is a pass of the number, and it is found.
use Rattle.std.proofs.Common.{rules}
use Rattle.std.proofs.lemmas.List.Sorted.{IsPermutation-swap_remove}
use Rattle.mdl_script.proofs.TurnLemmas.{place_none, place_some}
use Rattle.mdl_script.proofs.turns.take.Goals as goal

pub unreachable-requires : goal.unreachable-requires
unreachable-requires c = place_none c.args.passes.now.items c.args.who c.requires (search rules)

pub returns-clause-number : goal.returns-clause-number
returns-clause-number c = place_some c.args.passes.now.items c.args.who c.in-Some.place c.swap_remove.result (search rules) c.swap_remove.ensures.value

pub returns-clause-rest : goal.returns-clause-rest
returns-clause-rest c = search (rules, IsPermutation-swap_remove)

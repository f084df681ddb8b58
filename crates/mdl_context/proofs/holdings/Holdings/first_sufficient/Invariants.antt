-- The tickets at the place so far don't pass.
use Rattle.std.proofs.Common.{◌≡◌}
use Rattle.mdl_context.specs.Holdings.{earliest}
use Rattle.mdl_context.specs.Terms.{meets}
use Rattle.mdl_context.proofs.PlaceLemmas.{earliest_from}
use Rattle.mdl_context.proofs.holdings.Holdings.first_sufficient.Given as goal

abbrev pub invariant-loop-id : goal.invariant-loop-id
invariant-loop-id l = earliest_from l.self-inside.tickets.items l.place (meets l.place l.terms) l.id-index ≡ earliest (meets l.place l.terms) l.self-inside.tickets.items

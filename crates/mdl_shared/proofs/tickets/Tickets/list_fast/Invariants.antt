-- The fast ones are listed of the tickets so far.
use Rattle.std.proofs.Common.{◌≡◌, take, filter, map}
use Rattle.mdl_shared.specs.OwnTickets.{with_note}
use Rattle.mdl_shared.proofs.tickets.Tickets.list_fast.Given as goal

abbrev pub invariant-loop-gained : goal.invariant-loop-gained
invariant-loop-gained l = l.listed.items ≡ map (with_note l.self-inside.places.items) (filter (λ t. t.fast) (take l.gained-index l.gained-items))

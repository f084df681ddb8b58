-- The tickets so far are weighed.
use Rattle.std.proofs.Common.{◌≡◌, ℕ, map, take}
use Rattle.mdl_steps.specs.Cells.{ticket_by}
use Rattle.mdl_steps.specs.FastPlays.{weight_of}
use Rattle.mdl_visits.proofs.calls.materialise.weigh.Given as goal

abbrev pub invariant-loop-ticket : goal.invariant-loop-ticket
invariant-loop-ticket l = (session : ℕ) → l.weight ≡ weight_of l.kind (map (ticket_by session) (take l.ticket-index l.tickets))

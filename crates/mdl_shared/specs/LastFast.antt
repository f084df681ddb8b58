-- The last ticket of a session, where it is a fast one.
use Rattle.std.specs.Prelude.{◌≡◌, ◌+◌, true, Some}
use Rattle.mdl_shared.specs.Prelude.{SessionTicket, interleaved, numbered}
use Rattle.mdl_shared.specs.TicketLists.{TicketList}
use Rattle.mdl_shared.specs.Waitings.{are_below_next}

-- this fast ticket is the last one of both lists: it has the greatest number
abbrev pub EndsInFast : SessionTicket → TicketList → Type 0
EndsInFast held list = (numbered held.number list.fast ≡ Some held) × (are_below_next (held.number + 1) (interleaved list.slow list.fast) ≡ true)

-- A session's wait, as the session's own lists keep it between two calls.
use Rattle.std.specs.Prelude.{ℕ, ◌+◌, ◌==◌, Bool, true, not, nat_lt, List, Option, Some, None, is_some}
use Rattle.mdl_shared.specs.Prelude.{Ask, NoWait, SessionTicket, SpaceError, all_numbers, option_map_or}

-- whether all tickets have numbers below the next one
abbrev pub are_below_next : ℕ → List SessionTicket → Bool
are_below_next next tickets = all_numbers (λ n. nat_lt n next) tickets

-- whether the ticket that is waited for, if any, has the last number that was given out
abbrev pub is_ask_last : ℕ → Option Ask → Bool
is_ask_last next asks = option_map_or (λ (a : Ask). a.number + 1 == next) asks true

-- whether the session has a wait, or knows of no wait of its own that is settled
abbrev pub is_ask_told : Option Ask → Option ℕ → Bool
is_ask_told None told = not (is_some told)
is_ask_told (Some a) told = true

-- why a call on the session's own wait is refused: it has none
abbrev pub wait_fault : Option Ask → Option SpaceError
wait_fault None = Some NoWait
wait_fault (Some a) = None

-- The numbers of a session's tickets, and that of the ticket that it waits for.
use Rattle.std.specs.Prelude.{ℕ, Bool, true, ◌&&◌, ◌==◌, not, nat_lt, List, Option, find}
use Rattle.mdl_visits.specs.Prelude.{Ask, SessionTicket, list_all, option_map_or}

-- the ticket with a number
abbrev pub numbered : ℕ → List SessionTicket → Option SessionTicket
numbered number tickets = find (λ t. t.number == number) tickets

-- whether the numbers of all tickets pass a test
abbrev pub all_numbers : (ℕ → Bool) → List SessionTicket → Bool
all_numbers test tickets = list_all (λ (t : SessionTicket). test t.number) tickets

-- whether no ticket has this number
abbrev pub is_no_number : ℕ → List SessionTicket → Bool
is_no_number number tickets = all_numbers (λ n. not (n == number)) tickets

-- whether the ticket that is waited for, if any, has a number below the next one, which none of the tickets has
abbrev pub is_ask_apart : ℕ → List SessionTicket → Option Ask → Bool
is_ask_apart next tickets asks = option_map_or (λ (a : Ask). nat_lt a.number next && is_no_number a.number tickets) asks true

-- Tickets: a session's hold on a lock, or its wait for it, after MySQL 5.7: `MDL_ticket` of sql/mdl.h.
use Rattle.std.specs.Prelude.{ℕ, Bool, ◌&&◌, ◌==◌, List, ◌++◌, Option, find}
use Rattle.std.specs.List.{before_first, after_first, position_or_len}
use Rattle.std.specs.Option.{option_map, option_to_list}
use Rattle.mdl_key.specs.declared.mode.Mode.{Mode}
use Rattle.mdl_book.specs.declared.ticket.Ticket.{Ticket}

-- whether a ticket is the one to which a session gave this number
abbrev pub is_ticket : ℕ → ℕ → Ticket → Bool
is_ticket session number ticket = ticket.session == session && ticket.number == number

-- what identifies a ticket: its session, and the number that the session gave it
abbrev pub ticket_id : Ticket → ℕ × ℕ
ticket_id ticket = (ticket.session, ticket.number)

-- the first ticket of this session and number, if there is one
abbrev pub ticket_of : ℕ → ℕ → List Ticket → Option Ticket
ticket_of session number tickets = find (is_ticket session number) tickets

-- a ticket after the index of the first in a list that passes a test
abbrev pub with_index : (Ticket → Bool) → List Ticket → Ticket → ℕ × Ticket
with_index test tickets ticket = (position_or_len test tickets, ticket)

-- the list without that ticket
abbrev pub without : ℕ → ℕ → List Ticket → List Ticket
without session number tickets = before_first (is_ticket session number) tickets ++ after_first (is_ticket session number) tickets

-- the ticket, in another mode
abbrev pub in_mode : Mode → Ticket → Ticket
in_mode mode ticket = record ticket { mode = mode }

-- the list with that ticket in another mode, at the same position
abbrev pub with_mode : ℕ → ℕ → Mode → List Ticket → List Ticket
with_mode session number mode tickets =
    before_first (is_ticket session number) tickets
    ++ (option_to_list (option_map (in_mode mode) (ticket_of session number tickets)) ++ after_first (is_ticket session number) tickets)

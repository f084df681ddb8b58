-- How a lock's lists of tickets are stored, counted by mode: a representation, not a definition of the field.
use Rattle.std.specs.Prelude.{◌≡◌, ℕ, ◌<◌, Bool, not, ◌||◌, ◌==◌, nat_lt, List, slice_index}
use Rattle.std.specs.List.{count_by, list_all}
use Rattle.mdl_key.specs.declared.mode.Mode.{Mode}
use Rattle.mdl_key.specs.Words.{has_bit, mode_rank, same_mode, all_modes}
use Rattle.mdl_book.specs.declared.ticket.Ticket.{Ticket}

-- the value of a ticket list: its tickets, in order, and how many it has room for
pub record Roll : Type 0 where
  pub tickets : List Ticket
  pub room : ℕ

-- how many of the tickets are in a mode
abbrev pub count_in : Mode → List Ticket → ℕ
count_in mode tickets = count_by (λ ticket. same_mode mode ticket.mode) tickets

-- the counts, in the order of modes, are those of the tickets
abbrev pub CountsModes : List ℕ → List Ticket → Type 0
CountsModes counts tickets = (mode : Mode) → slice_index counts (mode_rank mode) ≡ count_in mode tickets

-- the modes whose bits are set are those that have tickets, by the counts
pub record MarksModes (present : ℕ) (counts : List ℕ) : Type 0 where
  pub eleven_bits : present < 2048
  pub marked : (mode : Mode) → has_bit present mode ≡ nat_lt 0 (slice_index counts (mode_rank mode))

-- whether no mode that has tickets, by the counts, passes the test
abbrev pub none_counted : (Mode → Bool) → List ℕ → Bool
none_counted test counts = list_all (λ mode. slice_index counts (mode_rank mode) == 0 || not (test mode)) all_modes

-- How a set of session numbers is stored: a representation, not a definition of the field.
use Rattle.std.specs.Prelude.{ℕ, Bool, ◌-◌, ◌/◌, ◌%◌, ◌==◌, List, filter, slice_index}
use Rattle.std.specs.List.{range_with_len}
use Rattle.std.specs.Int.{bit_at}
use Rattle.std.specs.Ordering.{nat_cmp}
use Rattle.std.specs.FinSet as set

-- whether the bit of a session is set: the first word has those of the sessions 1 to 64, from the lowest bit on
abbrev pub has_bit : List ℕ → ℕ → Bool
has_bit words session = bit_at (slice_index words ((session - 1) / 64)) ((session - 1) % 64) == 1

-- the sessions from 1 to `most` whose bits are set
unfoldable pub numbers_up_to : ℕ → List ℕ → List ℕ
numbers_up_to most words = filter (has_bit words) (range_with_len 1 most)

-- the set of the sessions whose bits are set
abbrev pub sessions_in : List ℕ → set.FinSet nat_cmp
sessions_in words = set.from_list (numbers_up_to 1024 words)

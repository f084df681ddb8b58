-- How many sessions pin each place.
use Rattle.std.specs.Prelude.{◌≡◌, ℕ, List, count_by, slice_index_or}
use Rattle.mdl_calls.specs.SessionLocks.{is_pinned}
use Rattle.mdl_core.specs.Seats.{SeatView, locks_of_seat}

-- how many of these seats pin a place
abbrev pub pin_count : ℕ → List SeatView → ℕ
pin_count place seats = count_by (λ seat. is_pinned place (locks_of_seat seat)) seats

-- the counts are right: each is the number of the seats that pin the place, and no seat pins a place that has no count
pub record CountsPins (counts : List ℕ) (seats : List SeatView) : Type 0 where
  pub tells : (place : ℕ) → slice_index_or counts place 0 ≡ pin_count place seats

-- What a lock space keeps of one session.
use Rattle.std.specs.Prelude.{ℕ, ◌+◌, Bool, false, not, List, [], ◌∷◌, ◌++◌, map, filter, Option, None, Some, is_some, if◌then◌else◌}
use Rattle.std.specs.Option.{option_map}
use Rattle.mdl_key.specs.declared.mode.Mode.{Mode}
use Rattle.mdl_calls.specs.declared.answers.Held.{Held}
use Rattle.mdl_calls.specs.declared.answers.Settled.{Settled}
use Rattle.mdl_core.specs.declared.pending.Pending.{Pending}
use Rattle.mdl_calls.specs.SessionLocks.{SessionLocks, Numbers, is_number, with_place, without_place}

-- a seat: the held tickets in the order in which the session got them, the wait that isn't ended, the pinned places in rising order, and
-- the last numbers that were given to its tickets and waits
pub record SeatView : Type 0 where
  pub held : List Held
  pub wait : Option Pending
  pub pins : List ℕ
  pub last_ticket : ℕ
  pub last_wait : ℕ

-- the seat of a session that never requested a lock
abbrev pub empty_seat : SeatView
empty_seat = record { held = []; wait = None; pins = []; last_ticket = 0; last_wait = 0 }

-- the held tickets, the wait and the pins, as callers see them
abbrev pub locks_of_seat : SeatView → SessionLocks
locks_of_seat seat = record {
  held = seat.held;
  wait = option_map (λ wait. record { number = wait.number; place = wait.place; mode = wait.mode }) seat.wait;
  pins = seat.pins;
}

-- the last numbers that were given to the session's tickets and waits
abbrev pub numbers_of_seat : SeatView → Numbers
numbers_of_seat seat = record { last_ticket = seat.last_ticket; last_wait = seat.last_wait }

-- the seat with a pin of this place
abbrev pub with_pin : ℕ → SeatView → SeatView
with_pin place seat = record seat { pins = with_place place seat.pins }

-- the seat without its pin of this place
abbrev pub without_pin : ℕ → SeatView → SeatView
without_pin place seat = record seat { pins = without_place place seat.pins }

-- the seat with a new ticket
abbrev pub holding : ℕ → Mode → SeatView → SeatView
holding place mode seat = record seat {
  held = seat.held ++ record { id = seat.last_ticket + 1; place = place; mode = mode } ∷ [];
  last_ticket = seat.last_ticket + 1;
}

-- the seat without the ticket of a number
abbrev pub without_ticket : ℕ → SeatView → SeatView
without_ticket id seat = record seat { held = filter (λ ticket. not (is_number id ticket)) seat.held }

-- a held ticket in another mode
abbrev pub held_in_mode : Mode → Held → Held
held_in_mode mode ticket = record ticket { mode = mode }

-- the seat with the ticket of a number in another mode
abbrev pub with_ticket_in : ℕ → Mode → SeatView → SeatView
with_ticket_in id mode seat = record seat {
  held = map (λ ticket. if is_number id ticket then held_in_mode mode ticket else ticket) seat.held;
}

-- the seat with a wait for a new ticket
abbrev pub beginning_wait : ℕ → Mode → SeatView → SeatView
beginning_wait place mode seat = record seat {
  wait = Some (record { number = seat.last_wait + 1; id = seat.last_ticket + 1; place = place; mode = mode; settled = None });
  last_ticket = seat.last_ticket + 1;
  last_wait = seat.last_wait + 1;
}

-- whether there is a wait, and it is unsettled
abbrev pub is_unsettled_wait : Option Pending → Bool
is_unsettled_wait None = false
is_unsettled_wait (Some wait) = not (is_some wait.settled)

-- whether there is a wait, and it is settled
abbrev pub is_settled_wait : Option Pending → Bool
is_settled_wait None = false
is_settled_wait (Some wait) = is_some wait.settled

-- the seat with its wait settled in this way
abbrev pub with_settled_wait : Settled → SeatView → SeatView
with_settled_wait how seat = record seat { wait = option_map (λ (wait : Pending). record wait { settled = Some how }) seat.wait }

-- the seat without its wait
abbrev pub seat_without_wait : SeatView → SeatView
seat_without_wait seat = record seat { wait = None }

-- the ticket that a wait is for
abbrev pub ticket_of_wait : Pending → Held
ticket_of_wait wait = record { id = wait.id; place = wait.place; mode = wait.mode }

-- the seat without its wait, and with the ticket that the wait was for
abbrev pub with_ticket_of : Pending → SeatView → SeatView
with_ticket_of wait seat = record seat { held = seat.held ++ ticket_of_wait wait ∷ []; wait = None }

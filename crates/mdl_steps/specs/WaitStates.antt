-- The word of a session's wait: eight times the number of the session's last wait, plus the state of that wait.
use Rattle.std.specs.Prelude.{ℕ, ◌+◌, ◌*◌, ◌/◌, ◌%◌, ◌<◌, ◌≤◌, Bool, nat_lt}
use Rattle.mdl_steps.specs.Prelude.{Killed, Loss, Timeout, Victim}

-- ---- the states

-- the session waits for nothing
abbrev pub idle_state : ℕ
idle_state = 0

-- its wait is neither granted nor lost
abbrev pub unsettled_state : ℕ
unsettled_state = 1

-- its wait was granted and isn't ended
abbrev pub granted_state : ℕ
granted_state = 2

-- its wait was lost in this way and isn't ended
abbrev pub lost_state : Loss → ℕ
lost_state Victim = 3
lost_state Timeout = 4
lost_state Killed = 5

-- this is one of the states above
abbrev pub IsState : ℕ → Type 0
IsState state = state ≤ lost_state Killed

-- a wait in this state is settled: it is granted or lost
abbrev pub IsSettled : ℕ → Type 0
IsSettled state = unsettled_state < state

-- whether a wait in this state is settled
abbrev pub is_settled : ℕ → Bool
is_settled state = nat_lt unsettled_state state

-- a wait in this state is lost
abbrev pub IsLost : ℕ → Type 0
IsLost state = granted_state < state

-- ---- the word

-- the word of the wait with this number, in this state
abbrev pub wait_in : ℕ → ℕ → ℕ
wait_in number state = 8 * number + state

-- the number of the last wait, by a word
abbrev pub wait_number : ℕ → ℕ
wait_number word = word / 8

-- the state, by a word
abbrev pub wait_state : ℕ → ℕ
wait_state word = word % 8

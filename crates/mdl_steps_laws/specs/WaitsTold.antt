-- The waits of the running table, with their states: each session's wait word has the state of the session's wait.
use Rattle.std.specs.Prelude.{◌≡◌, ◌↔◌, ℕ, Some, Contains}
use Rattle.mdl_steps.specs.declared.wait_word.Loss.TheVariants as loss
use Rattle.mdl_steps_laws.specs.Prelude.{Ask, Definition, GrantedWait, KeyName, Killed, Rule, Slot, State, System, TimedOut, Unsettled, Victim, View, WaitState, Waiter, get_elem?, granted_state, lost_state, some, unsettled_state, wait_in, waits}
use Rattle.mdl_steps_laws.specs.Locks.{Lock, AreLocksOf, Tells}

-- the state of a waiter, as a wait word has it
abbrev pub code_of : WaitState → ℕ
code_of Unsettled = unsettled_state
code_of Victim = lost_state loss.Victim
code_of TimedOut = lost_state loss.Timeout
code_of Killed = lost_state loss.Killed

-- a session waits for this ticket, and its wait word says that this wait is granted
abbrev pub IsGrantedWait : State Slot View → GrantedWait → Type 0
IsGrantedWait s wait =
    (i : ℕ) × (v : View) × (a : Ask) × (get_elem? s.views i ≡ some v) × (v.number ≡ wait.session) × (v.asks ≡ Some a) × (a.number ≡ wait.ticket)
    × (waits s wait.session ≡ wait_in wait.wait granted_state)

-- each waiter has the number and the state that its session's wait word has. The waits that are granted and not ended are exactly those that are so
-- by the wait words
pub record TellsWaits (s : State Slot View) (system : System Definition) : Type 0 where
  pub waiting : (key : KeyName) (w : Waiter) → Contains (system.waiting key) w → waits s w.ticket.session ≡ wait_in w.wait (code_of w.state)
  pub unended : (wait : GrantedWait) → Contains system.unended wait ↔ IsGrantedWait s wait

-- at any time the table has a system with its waits
abbrev pub RunningTablesTellWaits : Type 0
RunningTablesTellWaits =
    (s : State Slot View) → Rule s →
    (locks : KeyName → Lock) × AreLocksOf s locks × (system : System Definition) × Tells locks system × TellsWaits s system

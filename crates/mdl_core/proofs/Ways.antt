-- What comes of a call in the space of one thread: the way that it goes, what is asked of it, and what it leaves to the sessions.
use Rattle.std.proofs.Common.{◌≡◌, ◌⊎◌, ℕ, ◌+◌, Bool, true, false, List, Some, None, MatchOption, IfSome, length, option_map}
use Rattle.mdl_key.specs.Keys.{KeyName}
use Rattle.mdl_key.specs.declared.mode.Mode.{Mode}
use Rattle.mdl_defs.specs.declared.change.Change.{Change as Redefinition}
use Rattle.mdl_calls.specs.declared.answers.Held.{Held}
use Rattle.mdl_calls.specs.declared.answers.Settled.{Settled}
use Rattle.mdl_calls.specs.declared.answers.Settled.TheVariants as settled_as
use Rattle.mdl_calls.specs.declared.answers.TimedOut.TheVariants.{ByThisCall, Already}
use Rattle.mdl_calls.specs.Words.{Answer, Refused, At_place, Would_wait, Waits, Victim_is, Is_settled, Timed_out, Has_wait, Has_killed, Key_is, Tables, Upgraded, Holds, is_answer_of, Call, Resolve, Try_now, Begin_wait, Search, Poll_wait, Settle_timeout, End_wait, Wait_of, Kill, Upgrade_now, Key_of, Tables_of, List_held, caller, IsExplained, own_after, wait_number, Draws, IsToldOf}
use Rattle.mdl_core.specs.declared.pending.Pending.{Pending}
use Rattle.mdl_core.specs.ChangeEvents.{IsChangeEvent}
use Rattle.mdl_core.specs.Changes.{Change, Lose, Settle, Leave, Alter, Fold, May, seat_after, after_change, opening, serving}
use Rattle.mdl_core.specs.CoreCalls.{wait_at, is_open_wait, held_ticket}
use Rattle.mdl_core.specs.CoreJoins.{locks_at, numbers_at, Knows}
use Rattle.mdl_core.specs.CoreLaws.{is_change, IsEventOf}
use Rattle.mdl_core.specs.Cores.{Core, seat_at, key_at, has_key, has_session, index_of, is_in_use, pinning, placing_at, table_places}
use Rattle.mdl_core.specs.CoreSystems.{system_of}
use Rattle.mdl_core.specs.Seats.{SeatView, locks_of_seat, numbers_of_seat, with_pin}
use Rattle.mdl_core.specs.SessionLaws.{MeetsLimit}
use Rattle.mdl_system.specs.Words.{WaitsForCause, Event, IsGrantable, covers, may_downgrade}
use Rattle.mdl_core.proofs.PinnedSeats.{MayPin, repinned, repinning}
use Rattle.mdl_core.proofs.SparedSeats.{HasSettled, is_end}

-- ---- ways

-- nothing changes; the caller pins these places instead of those that it pinned; a key is given the next place, which the caller pins, or a place
-- that isn't in use; a session's wait is lost; or the caller makes a change of its own at a place
pub data Way : Type 0 where
  Stay : Way
  Repin : (who : ℕ) → List ℕ → Way
  Open : (who : ℕ) → KeyName → Way
  Replace : (who place : ℕ) → KeyName → Way
  Settle_wait : (who place : ℕ) → Settled → Way
  Make : (who place : ℕ) → Change → Way

-- whether a change makes room, so that waiters of its place are granted after it
abbrev pub makes_room : Change → Bool
makes_room (Lose ticket) = true
makes_room (Leave wait) = true
makes_room (Alter ticket mode) = may_downgrade ticket.mode mode
makes_room (Fold old new) = true
makes_room _ = false

abbrev pub served_if : Bool → ℕ → Core → Core
served_if true place core = serving place core
served_if false place core = core

-- the space after it, before waiters are granted
abbrev pub mid_by : Way → Core → Core
mid_by Stay a = a
mid_by (Repin who pins) a = repinning who pins a
mid_by (Open who key) a = pinning who (length a.books + 1) (opening key a)
mid_by (Replace who place key) a = pinning who place (placing_at place key a)
mid_by (Settle_wait who place how) a = after_change who place (Settle how) a
mid_by (Make who place change) a = after_change who place change a

-- and after that
abbrev pub space_by : Way → Core → Core
space_by (Make who place change) a = served_if (makes_room change) place (after_change who place change a)
space_by way a = mid_by way a

-- the caller's seat after it, but for how its wait is settled
abbrev pub seat_by : Way → ℕ → Core → SeatView
seat_by (Make who place change) w a = seat_after place change (seat_at w a)
seat_by (Repin who pins) w a = repinned pins (seat_at w a)
seat_by (Open who key) w a = with_pin (length a.books + 1) (seat_at w a)
seat_by (Replace who place key) w a = with_pin place (seat_at w a)
seat_by way w a = seat_at w a

-- ---- what is asked of a way

-- a session's ticket has a mode at once: it is as strong already, or the wish is grantable
abbrev pub HasAtOnce : Core → ℕ → Mode → Held → Type 0
HasAtOnce a who mode ticket = (covers ticket.mode mode ≡ true) ⊎ IsGrantable (system_of a) who (key_at ticket.place a) mode

-- it hasn't: neither is so
abbrev pub HasNotAtOnce : Core → ℕ → Mode → Held → Type 0
HasNotAtOnce a who mode ticket = (covers ticket.mode mode ≡ false) × (IsGrantable (system_of a) who (key_at ticket.place a) mode → ⊥)

-- what an answer says of the space is so
abbrev pub IsSo : Core → Call → Answer → Core → Type 0
IsSo a call (Refused refusal) b = MeetsLimit a call refusal
IsSo a (Resolve who key) (At_place place) b = Knows b who place key
IsSo a (Try_now who place mode) Would_wait b = IsGrantable (system_of a) who (key_at place a) mode → ⊥
IsSo a (Begin_wait who place mode) (Waits number) b = IsGrantable (system_of a) who (key_at place a) mode → ⊥
IsSo a (Upgrade_now who id mode) Upgraded b = MatchOption (held_ticket who id a) ⊥ (HasAtOnce a who mode)
IsSo a (Upgrade_now who id mode) Would_wait b = MatchOption (held_ticket who id a) ⊥ (HasNotAtOnce a who mode)
IsSo a (Search who) (Victim_is victim) b = HasSettled (seat_at victim b) settled_as.Victim
IsSo a (Poll_wait who) (Is_settled how) b = HasSettled (seat_at who b) how
IsSo a (Settle_timeout who) (Timed_out ByThisCall) b = HasSettled (seat_at who b) settled_as.Timeout
IsSo a (Settle_timeout who) (Timed_out (Already how)) b = HasSettled (seat_at who b) how
IsSo a (Wait_of target) (Has_wait number) b = number ≡ option_map (λ (wait : Pending). wait.number) (wait_at target a)
IsSo a (Kill target number) (Has_killed true) b = (wait_number (locks_at a target) ≡ Some number) × HasSettled (seat_at target b) settled_as.Killed
IsSo a (Kill target number) (Has_killed false) b = (is_open_wait number (wait_at target a) ≡ false) × (b ≡ a)
IsSo a (Key_of who place) (Key_is key) b = (has_key place b ≡ true) × (key_at place b ≡ key)
IsSo a (Tables_of who schema) (Tables places) b = (places ≡ table_places schema a) × (b ≡ a)
IsSo a (List_held who) (Holds tickets) b = tickets ≡ (locks_at a who).held
IsSo a call answer b = Unit {0}

-- a call with this answer does this to its caller, and tells it what is so
pub record ServesCaller (a : Core) (call : Call) (answer : Answer) (way : Way) (who : ℕ) : Type 0 where
  pub own : locks_of_seat (seat_by way who a) ≡ own_after call answer (locks_at a who)
  pub draws : Draws call answer (numbers_at a who) (numbers_of_seat (seat_by way who a))
  pub explained : IsExplained (Knows a who) call answer (locks_at a who)
  pub agrees : (how : Settled) → HasSettled (seat_at who a) how → IsToldOf how call answer

-- a change may be made, and is the event that the call is
pub record IsMade (a : Core) (call : Call) (answer : Answer) (who place : ℕ) (change : Change) : Type 0 where
  pub may : May who place change a
  pub event : Event Redefinition
  pub change_is : IsChangeEvent who place change a event
  pub call_is : IsEventOf a call answer event
  pub cause : WaitsForCause event (system_of a)

-- the caller is a session, and the system stays as it is
pub record IsCalm (a : Core) (call : Call) (answer : Answer) (who : ℕ) : Type 0 where
  pub calm : is_change a call answer ≡ false
  pub session : has_session who a ≡ true
  pub mine : caller call ≡ Some who

abbrev pub IsWay : Core → Call → Answer → Way → Type 0
IsWay a call answer Stay = is_change a call answer ≡ false
IsWay a call answer (Repin who pins) = IsCalm a call answer who × MayPin a who pins
IsWay a call answer (Open who key) = IsCalm a call answer who × (index_of key a.books ≡ None)
IsWay a call answer (Replace who place key) =
    IsCalm a call answer who × (index_of key a.books ≡ None) × (has_key place a ≡ true) × (is_in_use place a ≡ false)
IsWay a call answer (Settle_wait who place how) = IsMade a call answer who place (Settle how)
IsWay a call answer (Make who place change) =
    IsMade a call answer who place change × (caller call ≡ Some who) × (is_end change ≡ true → call ≡ End_wait who)

-- a call goes this way with this answer
pub record Made (a : Core) (call : Call) (answer : Answer) (way : Way) : Type 0 where
  pub fits : is_answer_of call answer ≡ true
  pub is_way : IsWay a call answer way
  pub so : IsSo a call answer (space_by way a)
  pub caller : IfSome (caller call) (ServesCaller a call answer way)

-- a call with this outcome goes some way
pub record Comes (a : Core) (call : Call) (outcome : Answer × Core) : Type 0 where
  pub way : Way
  pub is : Made a call outcome.0 way
  pub leads : space_by way a ≡ outcome.1

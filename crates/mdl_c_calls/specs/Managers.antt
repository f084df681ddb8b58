-- The manager behind a C handle: the space of one thread, and who keeps the tickets of each of its sessions.
use Rattle.std.specs.Prelude.{◌≡◌, ◌≤◌, ℕ, ◌+◌, ◌-◌, Bool, true, false, ◌==◌, List, [], ◌∷◌, length, replicate, slice_get, Option, Some, None, Result, Ok, Err, if◌then◌else◌}
use Rattle.mdl_calls.specs.Words.{Answer, Call, is_within}
use Rattle.mdl_core.specs.Words.{Core, SpeaksFor, empty_core}
use Rattle.mdl_space.specs.CoreMembers.{core_space}
use Rattle.mdl_context.specs.Contexts.{AreRising, Attends}
use Rattle.mdl_c_calls.specs.declared.seat.Seat.{Seat}
use Rattle.mdl_c_calls.specs.declared.seat.Seat.TheVariants.{Direct, Kept}
use Rattle.mdl_c_calls.specs.declared.unserved.Unserved.{Unserved}
use Rattle.mdl_c_calls.specs.declared.unserved.Unserved.TheVariants.{NoSession, HasContext, NoContext}

-- the space, and the seats of the sessions, from session 1
pub record Managed : Type 0 where
  pub space : Core
  pub seats : List Seat

-- the number of a manager's sessions
abbrev pub session_count_of : Managed → ℕ
session_count_of manager = length manager.seats

-- a manager before its first call
abbrev pub new_manager : ℕ → ℕ → Managed
new_manager places sessions = record { space = empty_core places sessions; seats = replicate sessions Direct }

-- whether a manager has a session of this number
abbrev pub has_member : ℕ → Managed → Bool
has_member who manager = is_within (session_count_of manager) who

-- the seat of a session, if it has one of this number
abbrev pub seat_of : ℕ → Managed → Option Seat
seat_of who manager = if who == 0 then None else slice_get manager.seats (who - 1)

-- ---- which sessions and contexts a manager serves

-- why a direct call of a session is refused: there is no such session, or a context keeps its tickets
abbrev pub direct_fault : Option Seat → Option Unserved
direct_fault None = Some NoSession
direct_fault (Some Direct) = None
direct_fault (Some (Kept context)) = Some HasContext

-- why a call of a session's context is refused: there is no such session, or it has no context
abbrev pub context_fault : Option Seat → Option Unserved
context_fault None = Some NoSession
context_fault (Some Direct) = Some NoContext
context_fault (Some (Kept context)) = None

-- a call was made, or it was refused for this reason and nothing has changed
abbrev pub Asks : {R : Type 0} → Option Unserved → (R → Type 0) → Result R Unserved → Managed → Managed → Type 0
Asks fault Made (Ok answer) before after = (fault ≡ None) × Made answer
Asks fault Made (Err why) before after = (fault ≡ Some why) × (after ≡ before)

-- ---- calls

-- the space makes this call with this answer. The seats are unchanged
abbrev pub JoinsServed : Call → Answer → Managed → Managed → Type 0
JoinsServed call answer before after = core_space.joins before.space call answer after.space × (after.seats ≡ before.seats)

-- the space makes this call, and the manager has this session
abbrev pub JoinsFor : ℕ → Call → Answer → Managed → Managed → Type 0
JoinsFor who call answer before after = (has_member who before ≡ true) × JoinsServed call answer before after

-- the manager has no such session, and nothing changes
abbrev pub IsOutside : ℕ → Managed → Managed → Type 0
IsOutside who before after = (has_member who before ≡ false) × (after ≡ before)

-- ---- invariants

-- the context of this session, if it has one, agrees with the space
abbrev pub IsAttended : Core → ℕ → Seat → Type 0
IsAttended space who Direct = Unit {0}
IsAttended space who (Kept context) = (context.who ≡ who) × Attends core_space space context

-- the numbers of the tickets that a context keeps at a seat rise
abbrev pub AreRisingAt : Seat → Type 0
AreRisingAt Direct = Unit {0}
AreRisingAt (Kept context) = AreRising context.kept

-- these are the seats of the sessions from this one on, and their contexts agree with the space
abbrev pub AreAttended : Core → ℕ → List Seat → Type 0
AreAttended space who [] = Unit {0}
AreAttended space who (seat ∷ seats) = IsAttended space who seat × AreAttended space (who + 1) seats

-- there is a seat for each session, the space is sound and has all these sessions, and their contexts agree with it
pub record ServesAll (space : Core) (sessions : ℕ) (seats : List Seat) : Type 0 where
  pub seated : length seats ≡ sessions
  pub speaks : (who : ℕ) → 1 ≤ who → who ≤ sessions → SpeaksFor space who
  pub attended : AreAttended space 1 seats

-- The specification of a call: what every lock space promises of it, and what a session of a shared space then has, knows and has read. Each call has its
-- own, in a file of `calls`. When a request is granted, and who is the victim of a deadlock, isn't said here. The matrices of `mdl_key` say which modes
-- clash. `mdl_system` says by them when a request is grantable (`IsGrantable`), and who is a deadlock's victim (`IsVictimOf`). `mdl_core` says that the
-- space of one thread answers so (`Determined`).
use Rattle.std.specs.Prelude.{◌≡◌, ℕ, Bool, true, false, List, Option, Some, None}
use Rattle.mdl_calls.specs.Prelude.{AlreadyWaiting, BadMode, CounterFull, Full, IfSome, KnownKey, Mode, NoPlace, NoWait, NotHeld, OutOfMemory, Settled, SpaceError}
use Rattle.mdl_calls.specs.Causes.{Knowledge, IsFit, IsUnfit}
use Rattle.mdl_calls.specs.Effects.{Effect, Keeps, own_by, DrawsBy, ends}
use Rattle.mdl_calls.specs.Interface.{Answer, Refused}
use Rattle.mdl_calls.specs.Learning.{KeepsSettled}
use Rattle.mdl_calls.specs.Meetings.{ReadsNothing}
use Rattle.mdl_calls.specs.SessionData.{SessionData, SpeaksFor, Knows}
use Rattle.mdl_calls.specs.SessionLocks.{SessionLocks, holds, is_pinned, is_waiting}

-- ---- what several calls share

-- why a call on the caller's own wait is refused: there is none
abbrev pub no_wait_cause : SpaceError → Knowledge → SessionLocks → Type 0
no_wait_cause NoWait knows own = is_waiting own ≡ false
no_wait_cause _ knows own = ⊥

-- why a call on a held ticket that takes no memory is refused: no ticket of the number is held
abbrev pub no_ticket_cause : ℕ → SpaceError → Knowledge → SessionLocks → Type 0
no_ticket_cause id NotHeld knows own = holds id own ≡ false
no_ticket_cause id _ knows own = ⊥

-- why a read under a ticket is refused: no ticket of the number is held, or memory ran out
abbrev pub read_cause : ℕ → SpaceError → Knowledge → SessionLocks → Type 0
read_cause id NotHeld knows own = holds id own ≡ false
read_cause id OutOfMemory knows own = Unit {0}
read_cause id _ knows own = ⊥

-- why a call is refused for which there is only one reason: memory ran out
abbrev pub memory_cause : SpaceError → Knowledge → SessionLocks → Type 0
memory_cause OutOfMemory knows own = Unit {0}
memory_cause _ knows own = ⊥

-- the caller may request a lock: it pins the place, it has no wait, and the mode fits the place
abbrev pub MayAsk : ℕ → Mode → Knowledge → SessionLocks → Type 0
MayAsk place mode knows own = (is_pinned place own ≡ true) × (is_waiting own ≡ false) × IsFit knows place mode

-- why a request is refused: the caller doesn't pin the place, or waits already, or the mode doesn't fit, or there is no number or no room left, or memory
-- ran out. Of the first three causes the first one counts. A request is refused for want of a number or of room only if it may be made (`MayAsk`).
abbrev pub wish_cause : ℕ → Mode → SpaceError → Knowledge → SessionLocks → Type 0
wish_cause place mode NoPlace knows own = is_pinned place own ≡ false
wish_cause place mode AlreadyWaiting knows own = (is_pinned place own ≡ true) × (is_waiting own ≡ true)
wish_cause place mode BadMode knows own = (is_pinned place own ≡ true) × (is_waiting own ≡ false) × IsUnfit knows place mode
wish_cause place mode CounterFull knows own = MayAsk place mode knows own
wish_cause place mode Full knows own = MayAsk place mode knows own
wish_cause place mode OutOfMemory knows own = Unit {0}
wish_cause place mode _ knows own = ⊥

-- ---- a call by its aspects

-- what is promised of a call
pub record CallSpec : Type 1 where
  -- the session that makes it, unless any session may
  pub caller : Option ℕ
  -- whether it may need memory
  pub takes_memory : Bool
  -- whether it reads with its session's cache
  pub reads_with_cache : Bool
  -- whether it can have this answer, by the answer's form
  pub answers : Answer → Bool
  -- what must hold of what the caller has for it not to be refused
  pub clear : Knowledge → SessionLocks → Type 0
  -- which errors it can be refused with, and what each says of what the caller has
  pub cause : SpaceError → Knowledge → SessionLocks → Type 0
  -- what it does to what the caller has
  pub effect : Answer → Effect
  -- the state in which it met the caller's wait, if the answer says that: not settled, or settled in this way
  pub met : Answer → Option (Option Settled)
  -- how the caller's wait is settled from then on, if the answer says that
  pub told : Answer → Option Settled
  -- whether this is an answer to it if the caller's wait is settled in this way
  pub told_of : Settled → Answer → Type 0
  -- which keys the caller knows before and after
  pub learns : Answer → List KnownKey → List KnownKey → Type 0
  -- the ticket under which it reads, if it does
  pub reads_under : Option ℕ
  -- the ticket under which it changed a definition, if it did
  pub redefines : Answer → Option ℕ
  -- what the caller reads and notes
  pub reads : Answer → SessionData → SessionData → Type 0
  -- what else the answer says of the session
  pub says : Answer → SessionData → SessionData → Type 0

-- a call of this session, with the other aspects as most calls have them. Some promise the most that they can: it has no answer and no cause of a refusal,
-- takes no memory, reads without a cache, leaves its caller's tickets, wait and pins as they are, and changes no definition. Its caller learns and reads
-- nothing. The others say nothing: `clear`, `met`, `told`, `told_of`, `reads_under` and `says`.
abbrev pub unchanged : ℕ → CallSpec
unchanged who = record {
  caller = Some who;
  takes_memory = false;
  reads_with_cache = false;
  answers = λ answer. false;
  clear = λ knows own. Unit {0};
  cause = λ why knows own. ⊥;
  effect = λ answer. Keeps;
  met = λ answer. None;
  told = λ answer. None;
  told_of = λ how answer. Unit {0};
  learns = λ answer before after. after ≡ before;
  reads_under = None;
  redefines = λ answer. None;
  reads = λ answer a b. ReadsNothing a b;
  says = λ answer a b. Unit {0};
}

-- ---- what it is to a session

-- what an answer says of what the caller has: if it is a refusal, its cause; otherwise what must hold for the call not to be refused
abbrev pub Explains : CallSpec → Knowledge → Answer → SessionLocks → Type 0
Explains call knows (Refused why) own = call.cause why knows own
Explains call knows _ own = call.clear knows own

-- a call with this answer takes the session from the one state to the other. The caller, if there is one, is the session itself (`mine`). The call can have
-- such an answer (`fits`). The session keeps its number (`number`), and has what the call leaves it (`own`, `numbers`). A refusal has a cause; with any
-- other answer, what must hold for the call not to be refused holds (`explained`). The session knows the keys that it learnt (`learns`). If the answer says
-- in which state the call met the caller's wait, and the session knew how its wait is settled, that is the state (`agreed`). If the answer says how the wait
-- is settled from then on, the session knows that afterwards (`told`). If the call ended the wait, the session afterwards knows of no settled wait.
-- Otherwise it still knows what it knew; what it didn't know it may have learnt, but only if it had a wait (`settled`). It has read what the call lets it
-- read (`reads`), and what else the answer says of it is true (`truly`). No clause says anything of other sessions.
pub record Transition (call : CallSpec) (answer : Answer) (a b : SessionData) : Type 0 where
  pub mine : IfSome call.caller (SpeaksFor a)
  pub fits : call.answers answer ≡ true
  pub number : b.number ≡ a.number
  pub own : b.own ≡ own_by (call.effect answer) a.own
  pub numbers : DrawsBy (call.effect answer) a.numbers b.numbers
  pub explained : Explains call (Knows a a.number) answer a.own
  pub learns : call.learns answer a.known b.known
  pub agreed : (state : Option Settled) (how : Settled) → call.met answer ≡ Some state → a.settled ≡ Some how → state ≡ Some how
  pub told : (how : Settled) → call.told answer ≡ Some how → b.settled ≡ Some how
  pub settled : KeepsSettled (ends (call.effect answer)) a b
  pub reads : call.reads answer a b
  pub truly : call.says answer a b

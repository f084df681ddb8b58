-- `clone_ticket`: a second ticket beside a held one, in a mode that the held one covers. It is refused if no such ticket is held, or the session waits, if
-- the held ticket doesn't cover the mode or the mode isn't one of the key's kind, if there is no number or no room left for a ticket, or if memory runs out.
-- It never waits, and the held ticket is unchanged.
use Rattle.std.specs.Prelude.{◌≡◌, ℕ, Bool, true, false}
use Rattle.mdl_calls.specs.FirstWords.{AlreadyWaiting, Answer, BadMode, CallSpec, Clones, CounterFull, Effect, Full, Granted, Keeps, Knowledge, MayClone, MayNotClone, Mode, NotHeld, OfHeld, OutOfMemory, Refused, SessionLocks, SpaceError, holds, is_waiting, unchanged}

-- its answers
abbrev pub answers : Answer → Bool
answers (Refused why) = true
answers (Granted copy) = true
answers _ = false

-- the caller has no wait, and holds the ticket, which may be cloned so
abbrev pub clear : ℕ → Mode → Knowledge → SessionLocks → Type 0
clear id mode knows own = (is_waiting own ≡ false) × OfHeld id own (MayClone knows mode)

-- why it is refused
abbrev pub cause : ℕ → Mode → SpaceError → Knowledge → SessionLocks → Type 0
cause id mode NotHeld knows own = holds id own ≡ false
cause id mode AlreadyWaiting knows own = (holds id own ≡ true) × (is_waiting own ≡ true)
cause id mode BadMode knows own = (is_waiting own ≡ false) × OfHeld id own (MayNotClone knows mode)
cause id mode CounterFull knows own = clear id mode knows own
cause id mode Full knows own = clear id mode knows own
cause id mode OutOfMemory knows own = Unit {0}
cause id mode _ knows own = ⊥

-- the copy is held too
abbrev pub effect : ℕ → Mode → Answer → Effect
effect id mode (Granted copy) = Clones copy id mode
effect id mode _ = Keeps

-- the call
abbrev pub clone_ticket : ℕ → ℕ → Mode → CallSpec
clone_ticket who id mode = record (unchanged who) {
  takes_memory = true;
  answers = answers;
  clear = clear id mode;
  cause = cause id mode;
  effect = effect id mode;
}

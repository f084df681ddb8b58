-- `upgrade_now`: a stronger mode of a held ticket, if it can be granted without waiting. If the held mode covers the mode already, the ticket keeps its mode,
-- and the answer is never that the caller would have to wait. The call is refused if no such ticket is held, if it can't be upgraded so, if the session
-- waits, if there is no room left for a ticket, or if memory runs out. For the last three reasons, so also for want of room (`Full`), it may be refused even
-- if the held mode covers the mode. It never begins a wait, and changes no other ticket.
use Rattle.std.specs.Prelude.{◌≡◌, ℕ, Bool, true, false}
use Rattle.mdl_calls.specs.FirstWords.{AlreadyWaiting, Answer, CallSpec, Effect, Full, Keeps, Knowledge, MayNotUpgrade, MayUpgrade, Mode, NotHeld, NotUpgradable, OfHeld, OutOfMemory, Raises, Refused, SessionData, SessionLocks, SpaceError, Upgraded, Would_wait, covers, holds, is_waiting, unchanged}

-- its answers
abbrev pub answers : Answer → Bool
answers (Refused why) = true
answers Upgraded = true
answers Would_wait = true
answers _ = false

-- the caller has no wait, and holds the ticket, which may be upgraded so
abbrev pub clear : ℕ → Mode → Knowledge → SessionLocks → Type 0
clear id mode knows own = (is_waiting own ≡ false) × OfHeld id own (MayUpgrade knows mode)

-- why it is refused
abbrev pub cause : ℕ → Mode → SpaceError → Knowledge → SessionLocks → Type 0
cause id mode NotHeld knows own = holds id own ≡ false
cause id mode NotUpgradable knows own = OfHeld id own (MayNotUpgrade knows mode)
cause id mode AlreadyWaiting knows own = (is_waiting own ≡ true) × OfHeld id own (MayUpgrade knows mode)
cause id mode Full knows own = clear id mode knows own
cause id mode OutOfMemory knows own = Unit {0}
cause id mode _ knows own = ⊥

-- the ticket gets the mode, unless its own covers that already
abbrev pub effect : ℕ → Mode → Answer → Effect
effect id mode Upgraded = Raises id mode
effect id mode _ = Keeps

-- where it would have to wait, the held mode didn't cover the mode
abbrev pub says : ℕ → Mode → Answer → SessionData → SessionData → Type 0
says id mode Would_wait a b = OfHeld id a.own (λ ticket. covers ticket.mode mode ≡ false)
says id mode Upgraded a b = Unit {0}
says id mode (Refused why) a b = Unit {0}
says id mode _ a b = ⊥

-- the call
abbrev pub upgrade_now : ℕ → ℕ → Mode → CallSpec
upgrade_now who id mode = record (unchanged who) {
  takes_memory = true;
  answers = answers;
  clear = clear id mode;
  cause = cause id mode;
  effect = effect id mode;
  says = says id mode;
}

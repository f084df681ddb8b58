-- `merge`: two held tickets of one place merged into one: the old one gets the mode of the new one, which is released. It is refused if one of them isn't
-- held, if the session waits, if they can't be merged, if there is no room left for a ticket, or if memory runs out. It changes no other ticket.
use Rattle.std.specs.Prelude.{◌≡◌, ℕ, Bool, true, false, ◌&&◌}
use Rattle.mdl_calls.specs.FirstWords.{AlreadyWaiting, Answer, BadMode, CallSpec, Done, Effect, Full, Keeps, Knowledge, Mergeable, Merges, NotHeld, OutOfMemory, Refused, SessionLocks, SpaceError, holds, is_waiting, unchanged}

-- its answers
abbrev pub answers : Answer → Bool
answers (Refused why) = true
answers Done = true
answers _ = false

-- the caller has no wait, and holds both tickets, which may be merged
abbrev pub clear : ℕ → ℕ → Knowledge → SessionLocks → Type 0
clear old new knows own = (is_waiting own ≡ false) × Mergeable true old new own

-- why it is refused
abbrev pub cause : ℕ → ℕ → SpaceError → Knowledge → SessionLocks → Type 0
cause old new NotHeld knows own = (holds old own && holds new own) ≡ false
cause old new AlreadyWaiting knows own = ((holds old own && holds new own) ≡ true) × (is_waiting own ≡ true)
cause old new BadMode knows own = (is_waiting own ≡ false) × Mergeable false old new own
cause old new Full knows own = clear old new knows own
cause old new OutOfMemory knows own = Unit {0}
cause old new _ knows own = ⊥

-- the old ticket gets the mode of the new one, which is released
abbrev pub effect : ℕ → ℕ → Answer → Effect
effect old new Done = Merges old new
effect old new _ = Keeps

-- the call
abbrev pub merge : ℕ → ℕ → ℕ → CallSpec
merge who old new = record (unchanged who) {
  takes_memory = true;
  answers = answers;
  clear = clear old new;
  cause = cause old new;
  effect = effect old new;
}

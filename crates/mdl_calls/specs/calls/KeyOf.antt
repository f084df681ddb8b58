-- `key_of`: the key of a place. It is refused only if the session doesn't know the place, or if memory runs out. It changes nothing.
use Rattle.std.specs.Prelude.{◌≡◌, ℕ, Bool, true, false, Some}
use Rattle.mdl_calls.specs.FirstWords.{Answer, CallSpec, IsUnknown, Key_is, Knowledge, NoPlace, OutOfMemory, Refused, SessionData, SessionLocks, SpaceError, key_known, unchanged}

-- its answers
abbrev pub answers : Answer → Bool
answers (Refused why) = true
answers (Key_is key) = true
answers _ = false

-- why it is refused
abbrev pub cause : ℕ → SpaceError → Knowledge → SessionLocks → Type 0
cause place NoPlace knows own = IsUnknown knows place
cause place OutOfMemory knows own = Unit {0}
cause place _ knows own = ⊥

-- the session knew that key there
abbrev pub says : ℕ → Answer → SessionData → SessionData → Type 0
says place (Key_is key) a b = key_known place a.known ≡ Some key
says place (Refused why) a b = Unit {0}
says place _ a b = ⊥

-- the call
abbrev pub key_of : ℕ → ℕ → CallSpec
key_of who place = record (unchanged who) { takes_memory = true; answers = answers; cause = cause place; says = says place }

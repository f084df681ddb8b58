-- `resolve`: the place of a key. The session knows it from then on, and pins it. A call is refused if no place is left, in which case the session knows no
-- place of the key, or if memory runs out. It changes no ticket and no wait, and reads nothing.
use Rattle.std.specs.Prelude.{◌≡◌, ℕ, Bool, true, false, List}
use Rattle.mdl_calls.specs.FirstWords.{Answer, At_place, CallSpec, Effect, IsUnplaced, Keeps, KeyName, Knowledge, KnownKey, LearnsPlace, NoPlace, OutOfMemory, Pins, Refused, SessionLocks, SpaceError, place_known, unchanged}

-- its answers
abbrev pub answers : Answer → Bool
answers (Refused why) = true
answers (At_place place) = true
answers _ = false

-- why it is refused
abbrev pub cause : KeyName → SpaceError → Knowledge → SessionLocks → Type 0
cause key NoPlace knows own = IsUnplaced knows key
cause key OutOfMemory knows own = Unit {0}
cause key _ knows own = ⊥

-- the place is pinned
abbrev pub effect : Answer → Effect
effect (At_place place) = Pins place
effect _ = Keeps

-- the key at its place is learnt, unless it was known
abbrev pub learns : KeyName → Answer → List KnownKey → List KnownKey → Type 0
learns key (At_place place) before after = LearnsPlace key place (place_known key before) before after
learns key _ before after = after ≡ before

-- the call
abbrev pub resolve : ℕ → KeyName → CallSpec
resolve who key = record (unchanged who) { takes_memory = true; answers = answers; cause = cause key; effect = effect; learns = learns key }

-- Laws of the system of locks and of its steps. `C` are the changes of definitions, `D` the definitions, and `apply` returns
-- the definition of a key after a change, or `None` if the change is refused.
use Rattle.std.specs.Prelude.{◌≡◌, ◌≢◌, ◌⊎◌, ◌↔◌, ℕ, ◌+◌, List, Option, IsTrue, Contains}
use Rattle.mdl_key.specs.declared.mode.Mode.TheVariants.{X}
use Rattle.mdl_key.specs.Words.{KeyName, is_mode_of}
use Rattle.mdl_system.specs.Systems.{Holding, System, empty_system, lock_kind, Held, IsLawful}
use Rattle.mdl_system.specs.Events.{Event, Happens, Run, session_of}

-- a lawful system stays lawful after an event and after a run of events, and one in which no session holds or waits is lawful
abbrev pub StepsKeepLawful : Type 0 → Type 0 → Type 0
StepsKeepLawful C D =
    (apply : KeyName → C → Option D → Option (Option D)) →
    ((event : Event C) (a b : System D) → Happens apply event a b → IsLawful a → IsLawful b)
    × ((events : List (Event C)) (a b : System D) → Run apply events a b → IsLawful a → IsLawful b)
    × IsLawful (empty_system {D = D})

-- an event changes nothing that sessions other than its own hold
abbrev pub OthersHoldTheSame : Type 0 → Type 0 → Type 0
OthersHoldTheSame C D =
    (apply : KeyName → C → Option D → Option (Option D)) (event : Event C) (a b : System D) →
    Happens apply event a b →
    (session : ℕ) → session ≢ session_of event →
    (ticket : Holding) → Held b session ticket ↔ Held a session ticket

-- a definition changes only by a session that holds its key exclusively, and the version then grows by one
abbrev pub DefinitionsChangeExclusively : Type 0 → Type 0 → Type 0
DefinitionsChangeExclusively C D =
    (apply : KeyName → C → Option D → Option (Option D)) (event : Event C) (a b : System D) →
    Happens apply event a b →
    (key : KeyName) →
    (b.definitions key ≡ a.definitions key)
    ⊎ ((ticket : Holding) × Held a (session_of event) ticket × (ticket.key ≡ key) × (ticket.mode ≡ X)
    × ((b.definitions key).version ≡ (a.definitions key).version + 1))

-- so if a session of a lawful system has a granted ticket of a key, in any mode that its lock uses, no event of another session
-- changes the key's definition
abbrev pub DefinitionsStandStill : Type 0 → Type 0 → Type 0
DefinitionsStandStill C D =
    (apply : KeyName → C → Option D → Option (Option D)) (event : Event C) (a b : System D) →
    IsLawful a → Happens apply event a b →
    (held : Holding) → Contains a.granted held → IsTrue (is_mode_of (lock_kind held.key) held.mode) →
    held.session ≢ session_of event →
    b.definitions held.key ≡ a.definitions held.key

-- The results of the session's calls that read the version of a place without its latch. A definition that a cache keeps of that version is read without
-- the latch, too.
use Rattle.std.specs.Prelude.{◌≡◌, ◌⊎◌, ℕ, List, Some, None, MatchOption}
use Rattle.mdl_shared.specs.FirstWords.{Answer, CacheView, Cached, Definition, FindsVersion, Hit, Joins, Kept, MissesVersion, OfTicket, Read_kept, Reads, ReadsByLatch, Refused, SessionView, Stale, VersionedDefinition, data_of, kept_first, kept_of, lists_seen, looked_at}

-- a version with the definition that a cache keeps of it
abbrev pub kept_standing : ℕ → Definition → VersionedDefinition
kept_standing version definition = record { version = version; definition = Some definition }

-- what a session finds in its cache for the ticket with this number, when the one step of the call has read the version of the ticket's place. Either the
-- cache keeps a definition of that version, which the session has read, and it notes the version. Or it keeps none, and the session has what it had
abbrev pub FindsKept : ℕ → List Kept → Cached → SessionView → SessionView → Type 0
FindsKept id kept (Hit definition) a b =
    OfTicket id (lists_seen a.me.0) (λ t. (version : ℕ) × (kept_of t.place version kept ≡ Some definition.now)
    × FindsVersion t.place (kept_standing version definition.now) a b
    × Joins (data_of a) (Read_kept a.me.0.number id) (Reads version (Some definition.now)) (data_of b))
FindsKept id kept Stale a b =
    OfTicket id (lists_seen a.me.0) (λ t. (version : ℕ) × (kept_of t.place version kept ≡ None) × MissesVersion t.place version a b)

-- the cache is unchanged, or keeps this definition of a place first, if there is one
abbrev pub MayKeep : ℕ → VersionedDefinition → CacheView → CacheView → Type 0
MayKeep place standing before after =
    (after ≡ before)
    ⊎ ((d : Definition) × (standing.definition ≡ Some d)
    × (after ≡ record { kept = kept_first place standing.version d before; capacity = before.capacity }))

-- how a session reads the version and definition of the key of a ticket's place with a cache, and what the cache keeps then. If it keeps a definition of
-- the version that a step found first, that is read, and comes first in the cache. Otherwise the definition is read under the latch, and may be kept, if
-- there is one
abbrev pub ReadsKept : ℕ → VersionedDefinition → SessionView → SessionView → CacheView → CacheView → Type 0
ReadsKept id standing a b before after =
    OfTicket id (lists_seen a.me.0) (λ t. (version : ℕ)
    × MatchOption (kept_of t.place version before.kept)
    ((mid : SessionView) × MissesVersion t.place version a mid × ReadsByLatch id t standing mid b × MayKeep t.place standing before after)
    (λ d. (standing ≡ kept_standing version d) × FindsVersion t.place standing a b
    × (after ≡ record { kept = looked_at t.place version before.kept; capacity = before.capacity })))

-- what a read with a cache, with this answer, does to the cache. One that is refused leaves it unchanged. Nothing is said of what is no answer to a read
abbrev pub UsesKept : ℕ → Answer → SessionView → SessionView → CacheView → CacheView → Type 0
UsesKept id (Reads version definition) a b before after = ReadsKept id (record { version = version; definition = definition }) a b before after
UsesKept id (Refused why) a b before after = after ≡ before
UsesKept id _ a b before after = Unit {0}

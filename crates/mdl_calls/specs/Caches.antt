-- Which definitions a session's cache may hold, and what the session's calls do to it.
use Rattle.std.specs.Prelude.{◌≡◌, ℕ, List, Some, Contains}
use Rattle.mdl_calls.specs.Prelude.{CacheView, Kept, VersionedDefinition}
use Rattle.mdl_calls.specs.Interface.{Answer, Call, Read_kept}

-- each definition in the cache was met at its place, with its version
abbrev pub AreMet : (ℕ → VersionedDefinition → Type 0) → List Kept → Type 0
AreMet met kept = (one : Kept) → Contains kept one → met one.0.0 (record { version = one.0.1; definition = Some one.1 })

-- what a call does to its session's cache, in a space that uses it so: a read with the cache uses it, and every other call leaves it unchanged
abbrev pub CacheAfter : {S : Type 0} → (S → ℕ → ℕ → Answer → CacheView → CacheView → S → Type 0) → S × CacheView → Call → Answer → S × CacheView → Type 0
CacheAfter uses a (Read_kept who id) answer b = uses a.0 who id answer a.1 b.1 b.0
CacheAfter uses a call answer b = b.1 ≡ a.1

-- a call of a session with a cache takes a space and the cache to those after it
abbrev pub with_cache : {S : Type 0} → (S → Call → Answer → S → Type 0) → (S → ℕ → ℕ → Answer → CacheView → CacheView → S → Type 0)
    → S × CacheView → Call → Answer → S × CacheView → Type 0
with_cache joins uses a call answer b = joins a.0 call answer b.0 × CacheAfter uses a call answer b

-- A cache after a definition was borrowed from it.
use Rattle.std.specs.Prelude.{◌≡◌, ℕ, ⊤}
use Rattle.std.specs.Borrow.{Fml, MutBor, follows_so}
use mathlib.Core.Option.{none}
use Rattle.mdl_defs.specs.Caches.{CacheView, looked_at}
use Rattle.mdl_defs.specs.contracts.def_cache.DefCache.{the_row}

-- when the borrow ends, the cache has the same entries as before it, and the one that was looked up, if there is one, comes first
abbrev pub EndsLookedAt : MutBor CacheView → ℕ → ℕ → Fml
EndsLookedAt cache place version =
    follows_so the_row the_row cache.ghost_name none (λ _ _. ⊤)
    (λ after. after ≡ record { kept = looked_at place version cache.now.kept; capacity = cache.now.capacity })

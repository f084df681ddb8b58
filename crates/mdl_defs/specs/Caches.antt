-- A bounded cache of definitions, by place and version. The limit is this project's own.
use Rattle.std.specs.Prelude.{ℕ, ◌-◌, ◌==◌, ◌<◌, ◌≤◌, Bool, ◌&&◌, List, ◌∷◌, length, take, Option}
use Rattle.std.specs.List.{IsDistinct}
use Rattle.std.specs.Map.{keys_of, lookup, lookup_entry, remove_entry}
use Rattle.std.specs.Option.{option_map_or}
use Rattle.mdl_defs.specs.declared.definition.Definition.{Definition}

-- the most definitions that a cache can keep
abbrev pub most_kept : ℕ
most_kept = 4096

-- an entry: a place and a version, and the definition that is kept of them
abbrev pub Kept : Type 0
Kept = (ℕ × ℕ) × Definition

-- the value of a cache: its entries, the most recently used first, and how many it can keep
pub record CacheView : Type 0 where
  pub kept : List Kept
  pub capacity : ℕ

-- whether a pair is this place and this version
abbrev pub is_of : ℕ → ℕ → ℕ × ℕ → Bool
is_of place version pair = (place == pair.0) && (version == pair.1)

module _ (place version : ℕ) (kept : List Kept) where
  -- the definition that is kept of a version of a place, if there is one
  abbrev pub kept_of : Option Definition
  kept_of = lookup (is_of place version) kept

  -- the entries after it was looked up: its entry, if there is one, comes first
  abbrev pub looked_at : List Kept
  looked_at = option_map_or (λ one. one ∷ remove_entry (is_of place version) kept) (lookup_entry (is_of place version) kept) kept

-- the entries after a definition was kept of a version of a place: it comes first, and replaces the one that was kept of that version. If
-- there was none and the cache is full, the last one is dropped
abbrev pub kept_first : ℕ → ℕ → Definition → CacheView → List Kept
kept_first place version definition cache =
    ((place, version), definition) ∷ option_map_or (λ _. remove_entry (is_of place version) cache.kept) (lookup_entry (is_of place version) cache.kept)
    (take (cache.capacity - 1) cache.kept)

-- whether two pairs are the same
abbrev pub same_pair : ℕ × ℕ → ℕ × ℕ → Bool
same_pair a b = is_of a.0 a.1 b

-- what is true of every cache: no two entries have the same pair, there are no more than it can keep, and it can keep at least one
abbrev pub IsCache : CacheView → Type 0
IsCache cache = IsDistinct same_pair (keys_of cache.kept) × (length cache.kept ≤ cache.capacity) × (0 < cache.capacity)

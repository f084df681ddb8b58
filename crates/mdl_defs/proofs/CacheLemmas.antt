-- What is kept of a pair comes first under that pair.
use Rattle.std.proofs.Common.{rules, ◌≡◌, ℕ, ◌-◌, true, List, ◌∷◌, take, Option, Some, None, refl, ap}
use Rattle.std.specs.Map.{lookup_entry, remove_entry}
use Rattle.std.specs.Option.{option_map_or}
use Rattle.lru.specs.LruCache.{lru_cache, put_entries}
use Rattle.lru.proofs.CallerLemmas.{Contains-lookup_entry}
use Rattle.mdl_defs.specs.declared.definition.Definition.{Definition}
use Rattle.mdl_defs.specs.Caches.{CacheView, Kept, is_of, same_pair, kept_first}

module _ (place version : ℕ) (definition : Definition) (kept : List Kept) (capacity : ℕ) where
  first : (o : Option Kept) → lookup_entry (is_of place version) kept ≡ o →
      option_map_or (λ e. (e.0, definition) ∷ remove_entry (is_of place version) kept) o (((place, version), definition) ∷ take (capacity - 1) kept)
      ≡ ((place, version), definition) ∷ option_map_or (λ _. remove_entry (is_of place version) kept) o (take (capacity - 1) kept)
  first None h = refl
  first (Some e) h =
      let here : is_of place version e.0 ≡ true = (Contains-lookup_entry (is_of place version) kept e h).1 in
      let same : e.0 ≡ (place, version) = search rules in
      rw same

  abbrev pub with_kept : List Kept → CacheView
  with_kept now = record { kept = now; capacity = capacity }

  pub put_keeps : with_kept (put_entries same_pair (lru_cache kept capacity) (place, version) definition) ≡ with_kept (kept_first place version definition (with_kept kept))
  put_keeps = ap with_kept (first (lookup_entry (is_of place version) kept) refl)

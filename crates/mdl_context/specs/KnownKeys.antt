-- The keys whose places a context knows, as its code represents them.
use Rattle.std.specs.Prelude.{◌≡◌, ℕ, ◌<◌, Bool, not, ◌&&◌, List, [], ◌∷◌, All, Option, Some, None, filter_map, length, slice_get}
use Rattle.std.specs.List.{list_any}
use Rattle.std.specs.Map.{lookup}
use Rattle.std.specs.Option.{option_and_then, option_map}
use Rattle.mdl_key.specs.Keys.{KeyName, key_eq}
use Rattle.mdl_context.specs.declared.known.KnownPlace.{KnownPlace}
use Rattle.mdl_context.specs.Contexts.{place_known}

-- a key by its index, with its place
abbrev pub known_key : List KeyName → KnownPlace → Option (KeyName × ℕ)
known_key met known = option_map (λ key. (key, known.place)) (slice_get met known.key)

-- the known keys with their places
abbrev pub known_keys : List KeyName → List KnownPlace → List (KeyName × ℕ)
known_keys met order = filter_map (known_key met) order

-- the index of each known key is that of a key
abbrev pub AreIndexes : List KeyName → List KnownPlace → Type 0
AreIndexes met order = All (λ known. known.key < length met) order

-- the place that is noted of a key, if any
abbrev pub place_met : KeyName → List (KeyName × Option ℕ) → Option ℕ
place_met key met = option_and_then (λ (place : Option ℕ). place) (lookup (key_eq key) met)

-- exactly the known keys have places, their own
abbrev pub AreMet : List (KeyName × Option ℕ) → List (KeyName × ℕ) → Type 0
AreMet met known = (key : KeyName) → place_met key met ≡ place_known key known

-- the keys stay where they are, and others may come
abbrev pub KeepsKeys : List KeyName → List KeyName → Type 0
KeepsKeys before after = (index : ℕ) (key : KeyName) → slice_get before index ≡ Some key → slice_get after index ≡ Some key

-- each known key is listed once
abbrev pub AreKnownOnce : List (KeyName × ℕ) → Type 0
AreKnownOnce [] = Unit {0}
AreKnownOnce (entry ∷ known) = (place_known entry.0 known ≡ None) × AreKnownOnce known

-- whether a key is known at a place that fails a test
abbrev pub is_dropped : (ℕ → Bool) → KeyName → List (KeyName × ℕ) → Bool
is_dropped test key known = list_any (λ entry. key_eq key entry.0 && not (test entry.1)) known

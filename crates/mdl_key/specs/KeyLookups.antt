-- The keys that a session has looked up, with their places: what it finds in that list, and when the list has nothing twice.
use Rattle.std.specs.Prelude.{ℕ, ◌==◌, Bool, true, not, ◌&&◌, List, [], ◌∷◌, Option, find}
use Rattle.std.specs.List.{list_all, list_any}
use Rattle.std.specs.Option.{option_map}
use Rattle.mdl_key.specs.declared.known_key.KnownKey.{KnownKey}
use Rattle.mdl_key.specs.declared.namespace.Kind.{Kind}
use Rattle.mdl_key.specs.Keys.{KeyName, key_eq}
use Rattle.mdl_key.specs.Modes.{kind_of}

-- ---- look-ups

-- the key of a place, if it is known
abbrev pub key_known : ℕ → List KnownKey → Option KeyName
key_known place known = option_map (λ (k : KnownKey). k.key) (find (λ (k : KnownKey). k.place == place) known)

-- whether the key of a place is known
abbrev pub is_known : ℕ → List KnownKey → Bool
is_known place known = list_any (λ (k : KnownKey). k.place == place) known

-- the place of a key, if it is known
abbrev pub place_known : KeyName → List KnownKey → Option ℕ
place_known key known = option_map (λ (k : KnownKey). k.place) (find (λ (k : KnownKey). key_eq k.key key) known)

-- the kind of the lock at a place, if its key is known
abbrev pub kind_known : ℕ → List KnownKey → Option Kind
kind_known place known = option_map (λ (k : KnownKey). kind_of k.key.namespace) (find (λ (k : KnownKey). k.place == place) known)

-- ---- nothing twice

-- whether two known keys differ, and their places, too
abbrev pub are_two : KnownKey → KnownKey → Bool
are_two one other = not (key_eq one.key other.key) && not (one.place == other.place)

-- whether no key is in the list twice, and no place
abbrev pub are_apart : List KnownKey → Bool
are_apart [] = true
are_apart (k ∷ later) = list_all (are_two k) later && are_apart later

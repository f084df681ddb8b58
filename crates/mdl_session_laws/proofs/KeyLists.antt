-- The keys that a session has looked up: they are found again, whichever are looked up later.
use Rattle.std.proofs.Common.{◌≡◌, ℕ, true, false, ◌==◌, List, [], ◌∷◌, ◌++◌, is_some, Option, Some, None, refl, sym, ap, ◌∙◌, arith}
use Rattle.mdl_system.proofs.Deciding.{key-Decides}
use Rattle.mdl_session_laws.proofs.Common.{KeyName, KnownKey, are_apart, are_two, is_known, key_eq, key_known, list_all, list_all-append, nat_tests, place_known}

-- ---- look-ups

-- a key is equal to itself
key-itself : (j k : KeyName) → j ≡ k → key_eq j k ≡ true
key-itself j k e = (key-Decides j k).1 e

-- what is known stays known
pub keeps-known : (known more : List KnownKey) (place : ℕ) (key : KeyName) → key_known place known ≡ Some key → key_known place (known ++ more) ≡ Some key
keeps-known [] more place key e = cc
keeps-known (k ∷ later) more place key e = grind (arith, nat_tests, keeps-known later more place key)

-- a place is known if it has a key
pub known-some : (known : List KnownKey) (place : ℕ) → is_known place known ≡ is_some (key_known place known)
known-some [] place = refl
known-some (k ∷ later) place = grind (arith, nat_tests, known-some later place)

-- a key that is known makes its place known
pub known-is : (known : List KnownKey) (place : ℕ) (key : KeyName) → key_known place known ≡ Some key → is_known place known ≡ true
known-is known place key e = known-some known place ∙ ap is_some e

-- and a known place has a key
pub is-known : (known : List KnownKey) (place : ℕ) → is_known place known ≡ true → (key : KeyName) × (key_known place known ≡ Some key)
is-known known place is = by (key_known place known) (sym (known-some known place) ∙ is)
  where
    by : (o : Option KeyName) → is_some o ≡ true → (key : KeyName) × (o ≡ Some key)
    by None e = cc
    by (Some key) e = (key, refl)

-- a known place stays known
pub stays-known : (known more : List KnownKey) (place : ℕ) → is_known place known ≡ true → is_known place (known ++ more) ≡ true
stays-known known more place is =
    let h = is-known known place is in known-is (known ++ more) place h.0 (keeps-known known more place h.0 h.1)

-- what is looked up last is known, where its place wasn't
pub last-known : (known : List KnownKey) (place : ℕ) (key : KeyName) → is_known place known ≡ false
    → key_known place (known ++ record { key = key; place = place } ∷ []) ≡ Some key
last-known [] place key e = grind (arith, nat_tests)
last-known (k ∷ later) place key e = grind (arith, nat_tests, last-known later place key)

-- ---- no key twice, and no place

-- a key that differs from all differs from a known one
other_key : (k : KnownKey) (later : List KnownKey) (place : ℕ) (key : KeyName) → list_all (are_two k) later ≡ true → key_known place later ≡ Some key
    → key_eq k.key key ≡ false
other_key k [] place key apart e = cc
other_key k (x ∷ later) place key apart e = grind (arith, nat_tests, other_key k later place key)

-- and so does its place
other_place : (k : KnownKey) (later : List KnownKey) (place : ℕ) (key : KeyName) → list_all (are_two k) later ≡ true → place_known key later ≡ Some place
    → (k.place == place) ≡ false
other_place k [] place key apart e = cc
other_place k (x ∷ later) place key apart e = grind (arith, nat_tests, other_place k later place key)

-- the key of a place has that place
pub place-of_key : (known : List KnownKey) (place : ℕ) (key : KeyName) → are_apart known ≡ true → key_known place known ≡ Some key
    → place_known key known ≡ Some place
place-of_key [] place key apart e = cc
place-of_key (k ∷ later) place key apart e =
    grind (arith, nat_tests, key-itself k.key key, other_key k later place key, place-of_key later place key)

-- and the place of a key that key
pub key-of_place : (known : List KnownKey) (place : ℕ) (key : KeyName) → are_apart known ≡ true → place_known key known ≡ Some place
    → key_known place known ≡ Some key
key-of_place [] place key apart e = cc
key-of_place (k ∷ later) place key apart e =
    grind (arith, nat_tests, (key-Decides k.key key).0, other_place k later place key, key-of_place later place key)

-- one more, whose key and place weren't known
pub apart-last : (known : List KnownKey) (place : ℕ) (key : KeyName) → are_apart known ≡ true → is_known place known ≡ false → place_known key known ≡ None
    → are_apart (known ++ record { key = key; place = place } ∷ []) ≡ true
apart-last [] place key apart here there = refl
apart-last (k ∷ later) place key apart here there =
    grind (arith, nat_tests, list_all-append (are_two k) later (record { key = key; place = place } ∷ []), apart-last later place key)

-- The keys that a session knows after a call: all that it knew, and no key twice, and no place.
use Rattle.std.proofs.Common.{◌≡◌, ℕ, true, List, [], ◌++◌, Option, Some, None, refl, sym, ap, ◌∙◌, append-nil}
use Rattle.mdl_session_laws.proofs.FirstLemmas.{Answer, At_place, Call, KeyName, KnownKey, LearnsKeys, LearnsPlace, Resolve, Tables, Tables_of, apart-last, are_apart, is_known, keeps-known, key_known, place_known, stays-known}

same-grows : (before after : List KnownKey) → after ≡ before → (more : List KnownKey) × (after ≡ before ++ more)
same-grows before after e = ([], e ∙ sym (append-nil before))

place-grows : (key : KeyName) (place : ℕ) (o : Option ℕ) (before after : List KnownKey) → LearnsPlace key place o before after
    → (more : List KnownKey) × (after ≡ before ++ more)
place-grows key place (Some known) before after learns = same-grows before after learns.1
place-grows key place None before after learns = (_, learns.1)

pub known-grows : (call : Call) (answer : Answer) (before after : List KnownKey) → LearnsKeys call answer before after
    → (more : List KnownKey) × (after ≡ before ++ more)
known-grows (Resolve who key) (At_place place) before after learns = place-grows key place (place_known key before) before after learns
known-grows (Tables_of who schema) (Tables places) before after learns = (learns.more, learns.grown)
known-grows _ _ before after learns = same-grows before after learns

-- no key twice, and no place
pub known-apart : (call : Call) (answer : Answer) (before after : List KnownKey) → LearnsKeys call answer before after → are_apart before ≡ true → are_apart after ≡ true
known-apart (Resolve who key) (At_place place) before after learns apart = by (place_known key before) refl learns
  where
    by : (o : Option ℕ) → place_known key before ≡ o → LearnsPlace key place o before after → are_apart after ≡ true
    by (Some known) is learns = ap are_apart learns.1 ∙ apart
    by None is learns = ap are_apart learns.1 ∙ apart-last before place key apart learns.0 is
known-apart (Tables_of who schema) (Tables places) before after learns apart = learns.apart
known-apart _ _ before after learns apart = ap are_apart learns ∙ apart

-- a key that was known is known
pub knows-on : (call : Call) (answer : Answer) (before after : List KnownKey) → LearnsKeys call answer before after
    → (place : ℕ) (key : KeyName) → key_known place before ≡ Some key → key_known place after ≡ Some key
knows-on call answer before after learns place key e =
    let h = known-grows call answer before after learns in ap (key_known place) h.1 ∙ keeps-known before h.0 place key e

-- and so is a place
pub known-on : (call : Call) (answer : Answer) (before after : List KnownKey) → LearnsKeys call answer before after
    → (place : ℕ) → is_known place before ≡ true → is_known place after ≡ true
known-on call answer before after learns place is =
    let h = known-grows call answer before after learns in ap (is_known place) h.1 ∙ stays-known before h.0 place is

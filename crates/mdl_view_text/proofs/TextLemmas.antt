-- Which bytes are text.
use Rattle.std.proofs.Common.{◌≡◌, ℕ, true, false, List, sym, inl, inr}
use Rattle.std.proofs.lemmas.Bool.{cases_Bool}
use Rattle.std.specs.Str.{IsUtf8, is_utf8}
use Rattle.std.proofs.lemmas.Str.{IsUtf8-from_is_utf8, is_utf8-from_IsUtf8}

-- they are
pub is_text : (bytes : List ℕ) → IsUtf8 bytes → true ≡ is_utf8 bytes
is_text bytes is = sym (is_utf8-from_IsUtf8 bytes is)

-- they aren't
pub is_no_text : (bytes : List ℕ) → (IsUtf8 bytes → ⊥) → false ≡ is_utf8 bytes
is_no_text bytes isnt = sym (elim (cases_Bool (is_utf8 bytes)) [ inl t ↦ absurd (isnt (IsUtf8-from_is_utf8 bytes t)) | inr f ↦ f ])

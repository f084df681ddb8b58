-- What is printed of a text is UTF-8, whatever its bytes are.
use Rattle.std.proofs.Common.{◌≡◌, ℕ, suc, ◌<◌, ◌≤◌, Bool, true, false, List, [], ◌∷◌, ◌++◌, length, get_or, IsUtf8, inl, inr, flat_map, refl, sym, ap, ap₂, ◌∙◌, subst, arith, append_assoc, append-nil}
use Rattle.std.proofs.lemmas.Bool.{cases_lt, ne_eqb, le-ltb, and_parts}
use Rattle.std.proofs.lemmas.Str.{IsUtf8-append, IsUtf8-nil, IsUtf8-encode, IsUtf8-from_is_utf8, encode_ascii, inside_one}
use lib.Utf8.{scalar, scalars, encode, encodes}
use Rattle.std.specs.Str.{is_utf8}
use Rattle.json.proofs.Printed.Utf8.{IsUtf8-are_ascii, are_ascii}
use Rattle.mdl_view_text.specs.Json.{json_byte, json_string}
use Rattle.mdl_view_text_laws.specs.Sizes.{AreBytes}
use Rattle.mdl_view_text_laws.proofs.Bytes.{passes_there}

-- ---- a text that is UTF-8

json_bytes-append : (is_text : Bool) (xs ys : List ℕ) → flat_map (json_byte is_text) (xs ++ ys) ≡ flat_map (json_byte is_text) xs ++ flat_map (json_byte is_text) ys
json_bytes-append is_text [] ys = refl
json_bytes-append is_text (x ∷ xs) ys =
    ap (λ l. json_byte is_text x ++ l) (json_bytes-append is_text xs ys)
    ∙ sym (append_assoc (json_byte is_text x) (flat_map (json_byte is_text) xs) (flat_map (json_byte is_text) ys))

high_byte : (x : ℕ) → 128 ≤ x → json_byte true x ≡ x ∷ []
high_byte x h = rw (ne_eqb x 34 (λ e. omega arith), ne_eqb x 92 (λ e. omega arith), le-ltb x 32 (omega arith), ne_eqb x 127 (λ e. omega arith))

high_bytes : (xs : List ℕ) → ((k : ℕ) → k < length xs → 128 ≤ get_or xs k 0) → flat_map (json_byte true) xs ≡ xs
high_bytes [] h = refl
high_bytes (x ∷ xs) h = ap₂ (λ (a b : List ℕ). a ++ b) (high_byte x (h 0 (omega arith))) (high_bytes xs (λ k l. h (suc k) (omega arith)))

one_character : (c : ℕ) → scalar c ≡ true → IsUtf8 (flat_map (json_byte true) (encode c))
one_character c ok = elim (cases_lt c 128) [
  | inl small ↦ rw (encode_ascii c small, append-nil) (IsUtf8-are_ascii (json_byte true c) (passes_there (λ x. are_ascii (json_byte true x)) 128 refl c small))
  | inr big ↦
      let high : (k : ℕ) → k < length (encode c) → 128 ≤ get_or (encode c) k 0 = λ k below. elim (cases_lt (get_or (encode c) k 0) 128) [
        | inl low ↦ absurd (omega (arith, inside_one c [] (encode c) k (sym (append-nil _)) below low))
        | inr h ↦ h
      ] in
      subst IsUtf8 (sym (high_bytes (encode c) high)) (IsUtf8-encode c ok)
]

all_characters : (cs : List ℕ) → scalars cs ≡ true → IsUtf8 (flat_map (json_byte true) (encodes cs))
all_characters [] e = IsUtf8-nil
all_characters (c ∷ cs) e =
    let parts = and_parts _ _ e in
    subst IsUtf8 (sym (json_bytes-append true (encode c) (encodes cs))) (IsUtf8-append _ _ (one_character c parts.0) (all_characters cs parts.1))

-- ---- other bytes

each_byte : (bytes : List ℕ) → AreBytes bytes → IsUtf8 (flat_map (json_byte false) bytes)
each_byte [] h = IsUtf8-nil
each_byte (x ∷ bytes) h =
    IsUtf8-append (json_byte false x) (flat_map (json_byte false) bytes)
    (IsUtf8-are_ascii (json_byte false x) (passes_there (λ y. are_ascii (json_byte false y)) 256 refl x (h 0 x (omega arith))))
    (each_byte bytes (λ k d l. h (suc k) d (omega arith)))

shown_by : (is_text : Bool) (bytes : List ℕ) → is_utf8 bytes ≡ is_text → AreBytes bytes → IsUtf8 (flat_map (json_byte is_text) bytes)
shown_by true bytes e h =
    let characters = IsUtf8-from_is_utf8 bytes e in
    subst (λ l. IsUtf8 (flat_map (json_byte true) l)) characters.1.1 (all_characters characters.0 characters.1.0)
shown_by false bytes e h = each_byte bytes h

pub ascii_then : (xs : List ℕ) → are_ascii xs ≡ true → (ys : List ℕ) → IsUtf8 ys → IsUtf8 (xs ++ ys)
ascii_then xs e ys h = IsUtf8-append xs ys (IsUtf8-are_ascii xs e) h

pub IsUtf8-json_string : (bytes : List ℕ) → AreBytes bytes → IsUtf8 (json_string bytes)
IsUtf8-json_string bytes h =
    ascii_then (34 ∷ []) refl _ (IsUtf8-append (flat_map (json_byte (is_utf8 bytes)) bytes) (34 ∷ []) (shown_by _ bytes refl h) (IsUtf8-are_ascii (34 ∷ []) refl))

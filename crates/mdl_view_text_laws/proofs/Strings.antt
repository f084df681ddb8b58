-- A text within quotes is read back.
use Rattle.std.proofs.Common.{true≢false, suc, ◌≡◌, ℕ, ◌/◌, ◌%◌, ◌<◌, ◌≤◌, Bool, true, false, cond, not, ◌||◌, ◌&&◌, ◌==◌, nat_le, nat_lt, List, [], ◌∷◌, ◌++◌, Some, inl, inr, ◌⊎◌, refl, sym, ap, ap₂, ◌∙◌, subst, arith, append_assoc, flat_map, encode_utf8, if◌then◌else◌}
use Rattle.std.proofs.lemmas.Bool.{le-ltb, lt-leb, and_parts, or_parts, or_cases, ltb-true, ltb-false, leb-false, eqb-true, not-true}
use Rattle.std.proofs.lemmas.Str.{encode_ascii}
use Rattle.std.specs.List.{list_all}
use Rattle.std.specs.Str.{is_utf8}
use Rattle.json.specs.Run.{is_plain}
use Rattle.json.specs.Text.{content, plain, prepend, short_escape, is_high_surrogate, is_low_surrogate}
use Rattle.json.specs.Token.{string}
use Rattle.json.specs.Word.{is_operator, is_space}
use Rattle.json.specs.Lex.{Lexeme, Mode, token, string_token, lex, lex_byte, between, in_string, operator, space, other}
use Rattle.mdl_view_text.specs.Names.{hex_digit, is_control}
use Rattle.mdl_view_text.specs.Json.{escape, json_byte, json_string}
use Rattle.mdl_view_text_laws.specs.JsonTexts.{text_read}
use Rattle.mdl_view_text_laws.specs.Sizes.{AreBytes}
use Rattle.mdl_view_text_laws.proofs.Bytes.{each_digit, code_unit-byte}

-- what a byte is read as
abbrev byte_read : Bool → ℕ → List ℕ
byte_read is_text byte = if is_text then byte ∷ [] else encode_utf8 byte

-- what is printed for a byte is read as these bytes, and the lexer passes over it
record Passes (shown : List ℕ) (bytes : List ℕ) : Type 0 where
  read : (r : List ℕ) → content plain (shown ++ r) ≡ prepend bytes (content plain r)
  lexed : (r : List ℕ) → lex in_string (shown ++ r) ≡ lex in_string r

-- ---- a byte as itself

stays_inside : (o s : Bool) (x : ℕ) (r : List ℕ) (k : Mode → List Lexeme) → lex_byte in_string (cond o operator (cond s space other)) x r k ≡ k in_string
stays_inside true s x r k = refl
stays_inside false true x r k = refl
stays_inside false false x r k = refl

alone_passes : (x : ℕ) → (x == 34) ≡ false → (x == 92) ≡ false → 32 ≤ x → Passes (x ∷ []) (x ∷ [])
unfolding content lex
alone_passes x q b l = record {
  read = λ r. rw (q, b, le-ltb x 32 l);
  lexed = λ r. rw (q, b) (stays_inside (is_operator x) (is_space x) x r (λ m. lex m r));
}

plain_passes : (x : ℕ) → is_plain x ≡ true → Passes (x ∷ []) (x ∷ [])
plain_passes x h =
    let none = or_parts ((x == 34) || (x == 92)) (nat_lt x 32) (not-true _ h) in
    let marks = or_parts (x == 34) (x == 92) none.0 in
    alone_passes x marks.0 marks.1 (ltb-false x 32 none.1)

-- ---- a backslash before a quote or a backslash

marked_passes : (x : ℕ) → (x ≡ 34) ⊎ (x ≡ 92) → Passes (92 ∷ x ∷ []) (x ∷ [])
unfolding content lex short_escape
marked_passes x (inl e) = subst (λ y. Passes (92 ∷ y ∷ []) (y ∷ [])) (sym e) (record { read = λ r. refl; lexed = λ r. refl })
marked_passes x (inr e) = subst (λ y. Passes (92 ∷ y ∷ []) (y ∷ [])) (sym e) (record { read = λ r. refl; lexed = λ r. refl })

-- ---- a byte as \u00 and its digits

digit_passes : (d : ℕ) (r : List ℕ) → (d == 34) ≡ false → (d == 92) ≡ false → lex in_string (d ∷ r) ≡ lex in_string r
unfolding lex
digit_passes d r q b = rw (q, b) (stays_inside (is_operator d) (is_space d) d r (λ m. lex m r))

escape_passes : (x : ℕ) → x < 256 → Passes (escape x) (encode_utf8 x)
unfolding content lex
escape_passes x h =
    let high = each_digit (x / 16) (omega arith) in
    let low = each_digit (x % 16) (omega arith) in
    let no_high : is_high_surrogate x ≡ false = rw (lt-leb 55296 x (omega arith)) in
    let no_low : is_low_surrogate x ≡ false = rw (lt-leb 56320 x (omega arith)) in
    record {
      read = λ r. rw (code_unit-byte x h, no_high, no_low);
      lexed = λ r. digit_passes (hex_digit (x / 16)) (hex_digit (x % 16) ∷ r) high.no_quote high.no_backslash ∙ digit_passes (hex_digit (x % 16)) r low.no_quote low.no_backslash;
    }

-- ---- each byte

byte_alone : (is_text : Bool) (x : ℕ) → x < 128 → byte_read is_text x ≡ x ∷ []
byte_alone true x h = refl
byte_alone false x h = encode_ascii x h

byte_escaped : (is_text : Bool) (x : ℕ) → (is_control x ≡ true) ⊎ ((not is_text && nat_le 128 x) ≡ true) → byte_read is_text x ≡ encode_utf8 x
byte_escaped false x h = refl
byte_escaped true x (inl h) = sym (encode_ascii x (elim (or_cases (nat_lt x 32) (x == 127) h) [ inl low ↦ omega (arith, ltb-true x 32 low) | inr delete ↦ omega (arith, eqb-true x 127 delete) ]))
byte_escaped true x (inr h) = absurd (true≢false (sym h))

byte_shown : (is_text : Bool) (x : ℕ) → (not is_text && nat_le 128 x) ≡ false → byte_read is_text x ≡ x ∷ []
byte_shown true x h = refl
byte_shown false x h = encode_ascii x (omega (arith, leb-false 128 x h))

unmarked_passes : (is_text : Bool) (x : ℕ) (escaped : Bool) → x < 256 → (x == 34) ≡ false → (x == 92) ≡ false → (is_control x || (not is_text && nat_le 128 x)) ≡ escaped
    → Passes (cond escaped (escape x) (x ∷ [])) (byte_read is_text x)
unmarked_passes is_text x true h q b e = subst (Passes (escape x)) (sym (byte_escaped is_text x (or_cases _ _ e))) (escape_passes x h)
unmarked_passes is_text x false h q b e =
    let parts = or_parts (is_control x) (not is_text && nat_le 128 x) e in
    let control = or_parts (nat_lt x 32) (x == 127) parts.0 in
    subst (Passes (x ∷ [])) (sym (byte_shown is_text x parts.1)) (alone_passes x q b (ltb-false x 32 control.0))

byte_passes : (is_text : Bool) (x : ℕ) (marked : Bool) → x < 256 → (x == 34 || x == 92) ≡ marked → Passes (cond marked (92 ∷ x ∷ []) (cond (is_control x || (not is_text && nat_le 128 x)) (escape x) (x ∷ []))) (byte_read is_text x)
byte_passes is_text x true h e =
    let which : (x ≡ 34) ⊎ (x ≡ 92) = elim (or_cases (x == 34) (x == 92) e) [ inl q ↦ inl (eqb-true x 34 q) | inr b ↦ inr (eqb-true x 92 b) ] in
    let small : x < 128 = elim which [ inl q ↦ omega arith | inr b ↦ omega arith ] in
    subst (Passes (92 ∷ x ∷ [])) (sym (byte_alone is_text x small)) (marked_passes x which)
byte_passes is_text x false h e = let parts = or_parts (x == 34) (x == 92) e in unmarked_passes is_text x _ h parts.0 parts.1 refl

-- ---- texts

content-shown : (is_text : Bool) (bytes r : List ℕ) → AreBytes bytes → content plain (flat_map (json_byte is_text) bytes ++ 34 ∷ r) ≡ Some (flat_map (byte_read is_text) bytes)
unfolding content
content-shown is_text [] r h = refl
content-shown is_text (x ∷ bytes) r h =
    ap (content plain) (append_assoc (json_byte is_text x) (flat_map (json_byte is_text) bytes) (34 ∷ r))
    ∙ (byte_passes is_text x _ (h 0 x (omega arith)) refl).read _
    ∙ ap (prepend (byte_read is_text x)) (content-shown is_text bytes r (λ k d l. h (suc k) d (omega arith)))

lex-shown : (is_text : Bool) (bytes r : List ℕ) → AreBytes bytes → lex in_string (flat_map (json_byte is_text) bytes ++ 34 ∷ r) ≡ lex between r
unfolding lex
lex-shown is_text [] r h = refl
lex-shown is_text (x ∷ bytes) r h =
    ap (lex in_string) (append_assoc (json_byte is_text x) (flat_map (json_byte is_text) bytes) (34 ∷ r))
    ∙ (byte_passes is_text x _ (h 0 x (omega arith)) refl).lexed _
    ∙ lex-shown is_text bytes r (λ k d l. h (suc k) d (omega arith))

each_alone : (bytes : List ℕ) → flat_map (byte_read true) bytes ≡ bytes
each_alone [] = refl
each_alone (x ∷ bytes) = ap (λ l. x ∷ l) (each_alone bytes)

read_by : (is_text : Bool) (bytes : List ℕ) → flat_map (byte_read is_text) bytes ≡ cond is_text bytes (flat_map encode_utf8 bytes)
read_by true bytes = each_alone bytes
read_by false bytes = refl

pub lex-json_string : (bytes r : List ℕ) → AreBytes bytes → lex between (json_string bytes ++ r) ≡ token (string (text_read bytes)) ∷ lex between r
unfolding lex
lex-json_string bytes r h =
    let is_text = is_utf8 bytes in
    let whole = append_assoc (flat_map (json_byte is_text) bytes) (34 ∷ []) r in
    ap (λ l. lex between (34 ∷ l)) whole
    ∙ ap₂ (λ o l. token (string_token o) ∷ l) (content-shown is_text bytes r h ∙ ap Some (read_by is_text bytes)) (lex-shown is_text bytes r h)

-- ---- keys

content-plain : (key r : List ℕ) → list_all is_plain key ≡ true → content plain (key ++ 34 ∷ r) ≡ Some key
unfolding content
content-plain [] r h = refl
content-plain (x ∷ key) r h =
    let parts = and_parts (is_plain x) (list_all is_plain key) h in
    (plain_passes x parts.0).read (key ++ 34 ∷ r) ∙ ap (prepend (x ∷ [])) (content-plain key r parts.1)

lex-plain : (key r : List ℕ) → list_all is_plain key ≡ true → lex in_string (key ++ 34 ∷ r) ≡ lex between r
unfolding lex
lex-plain [] r h = refl
lex-plain (x ∷ key) r h =
    let parts = and_parts (is_plain x) (list_all is_plain key) h in
    (plain_passes x parts.0).lexed (key ++ 34 ∷ r) ∙ lex-plain key r parts.1

pub lex-key : (key r : List ℕ) → list_all is_plain key ≡ true → lex between (34 ∷ (key ++ 34 ∷ r)) ≡ token (string key) ∷ lex between r
unfolding lex
lex-key key r h = ap₂ (λ o l. token (string_token o) ∷ l) (content-plain key r h) (lex-plain key r h)

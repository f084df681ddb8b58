-- Nothing in the data, and nothing in the script's text, is markup.
use Rattle.std.proofs.Common.{◌≡◌, ◌∙◌, ℕ, zero, suc, ◌+◌, ◌/◌, ◌%◌, ◌<◌, ◌≤◌, Bool, true, false, cond, ◌&&◌, eqb, ltb, List, [], ◌∷◌, ◌++◌, codes, ap, refl, arith}
use Rattle.std.specs.Fmt.{decimal, digit_glyph, digits, digits_onto}
use Rattle.std.specs.List.{list_all, flat_map}
use Rattle.std.proofs.lemmas.Bool.Decides.{nat_tests}
use Rattle.std.proofs.lemmas.List.Folds.{list_all-append}
use Rattle.mdl_page.specs.Pages.{FactsView, behind_comma, facts_text, in_script, in_text, lines_text, script_byte, text_byte}
use Rattle.mdl_page.specs.PageLaws.{DataHasNoMarkup, TextHasNoMarkup, begins_no_markup}

-- a text in which no byte begins markup
abbrev IsClean : List ℕ → Type 0
IsClean text = list_all begins_no_markup text ≡ true

both : (one other : List ℕ) → IsClean one → IsClean other → IsClean (one ++ other)
both one other this that = list_all-append begins_no_markup one other ∙ ap (λ b. b && list_all begins_no_markup other) this ∙ that

either : (t : Bool) (one other : List ℕ) → (t ≡ true → IsClean one) → (t ≡ false → IsClean other) → IsClean (cond t one other)
either true one other this that = this refl
either false one other this that = that refl

-- a byte of JSON
other_byte : (byte : ℕ) → eqb byte 60 ≡ false → IsClean (byte ∷ [])
other_byte byte other = rw other refl

byte_is_clean : (byte : ℕ) → IsClean (script_byte byte)
byte_is_clean byte = either (eqb byte 60) (codes "\\u003c") (byte ∷ []) (λ is. refl) (other_byte byte)

json_is_clean : (text : List ℕ) → IsClean (in_script text)
json_is_clean [] = refl
json_is_clean (byte ∷ text) = both (script_byte byte) (in_script text) (byte_is_clean byte) (json_is_clean text)

-- a byte of text
plain_is_clean : (byte : ℕ) → IsClean (cond (eqb byte 60) (codes "&lt;") (byte ∷ []))
plain_is_clean byte = either (eqb byte 60) (codes "&lt;") (byte ∷ []) (λ is. refl) (other_byte byte)

text_byte_is_clean : (byte : ℕ) → IsClean (text_byte byte)
text_byte_is_clean byte =
    either (eqb byte 38) (codes "&amp;") (cond (eqb byte 60) (codes "&lt;") (byte ∷ [])) (λ is. refl) (λ other. plain_is_clean byte)

pub text_has_no_markup : TextHasNoMarkup
text_has_no_markup [] = refl
text_has_no_markup (byte ∷ text) = both (text_byte byte) (in_text text) (text_byte_is_clean byte) (text_has_no_markup text)

-- a number
digit_is_clean : (byte : ℕ) → 48 ≤ byte → byte ≤ 57 → begins_no_markup byte ≡ true
digit_is_clean byte low high =
    let other : eqb byte 60 ≡ false = grind (arith, nat_tests) in
    rw other refl

glyph_is_clean : (d : ℕ) → d < 10 → begins_no_markup (digit_glyph false d) ≡ true
glyph_is_clean d low =
    let digit : ltb d 10 ≡ true = grind (arith, nat_tests) in
    let is : begins_no_markup (48 + d) ≡ true = digit_is_clean (48 + d) (omega arith) (omega arith) in
    rw digit is

one_more : (byte : ℕ) (text : List ℕ) → begins_no_markup byte ≡ true → IsClean text → IsClean (byte ∷ text)
one_more byte text this others = rw this others

digits_are_clean : (k n : ℕ) (behind : List ℕ) → IsClean behind → IsClean (digits_onto k 10 false n behind)
digits_are_clean zero n behind others = others
digits_are_clean (suc k) n behind others =
    let low : n % 10 < 10 = omega arith in
    let more : IsClean (digit_glyph false (n % 10) ∷ behind) = one_more (digit_glyph false (n % 10)) behind (glyph_is_clean (n % 10) low) others in
    either (eqb (n / 10) 0) (digit_glyph false (n % 10) ∷ behind) (digits_onto k 10 false (n / 10) (digit_glyph false (n % 10) ∷ behind)) (λ is. more)
    (λ is. digits_are_clean k (n / 10) (digit_glyph false (n % 10) ∷ behind) more)

number_is_clean : (n : ℕ) → IsClean (decimal n)
unfolding digits
number_is_clean n = digits_are_clean 64 n [] refl

-- the object of a line
member_is_clean : (head value : List ℕ) → IsClean head → IsClean (head ++ in_script value)
member_is_clean head value this = both head (in_script value) this (json_is_clean value)

facts_are_clean : (facts : FactsView) → IsClean (facts_text facts)
facts_are_clean facts =
    let locks : List ℕ = codes ",\"locks\":" ++ in_script facts.locks in
    let waits : List ℕ = codes ",\"waits\":" ++ in_script facts.waits in
    let why : List ℕ = codes ",\"why\":" ++ in_script facts.why in
    let start : List ℕ = codes "{\"line\":" ++ decimal facts.line in
    both (start ++ locks ++ waits ++ why) (codes "}")
    (both (start ++ locks ++ waits) why
    (both (start ++ locks) waits
    (both start locks (both (codes "{\"line\":") (decimal facts.line) refl (number_is_clean facts.line)) (member_is_clean (codes ",\"locks\":") facts.locks refl))
    (member_is_clean (codes ",\"waits\":") facts.waits refl))
    (member_is_clean (codes ",\"why\":") facts.why refl))
    refl

-- all lines
others_are_clean : (lines : List FactsView) → IsClean (flat_map behind_comma lines)
others_are_clean [] = refl
others_are_clean (facts ∷ lines) =
    both (behind_comma facts) (flat_map behind_comma lines) (both (codes ",\n") (facts_text facts) refl (facts_are_clean facts)) (others_are_clean lines)

lines_are_clean : (lines : List FactsView) → IsClean (lines_text lines)
lines_are_clean [] = refl
lines_are_clean (facts ∷ lines) = both (facts_text facts) (flat_map behind_comma lines) (facts_are_clean facts) (others_are_clean lines)

pub data_has_no_markup : DataHasNoMarkup
data_has_no_markup lines = both (codes "[" ++ lines_text lines) (codes "]") (both (codes "[") (lines_text lines) refl (lines_are_clean lines)) refl

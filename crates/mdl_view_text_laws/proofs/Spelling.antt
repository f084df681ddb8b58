-- A text spells a value: the lexer gives the value's lexemes of it. Texts, numbers and arrays do.
use Rattle.std.proofs.Common.{IsUtf8, ◌≡◌, ℕ, suc, ◌^◌, ◌<◌, ◌≤◌, true, cond, List, [], ◌∷◌, ◌++◌, All, refl, sym, ap, ap₂, ◌∙◌, arith, append_assoc, decimal, codes}
use Rattle.std.proofs.lemmas.Fmt.{IsAscii-decimal}
use Rattle.std.proofs.lemmas.Str.{IsUtf8-append, IsUtf8-from_ascii, IsUtf8-nil}
use Rattle.json.specs.Json.{Json, null, number}
use Rattle.json.specs.Token as spec
use Rattle.json.specs.Word.{ends_word, after_number, word}
use Rattle.json.specs.Lex.{token, comma, lex, between}
use Rattle.json.specs.Tree.{depth, items_depth}
use Rattle.json.proofs.Printed.Decimals.{IsNumber-decimal}
use Rattle.json.proofs.Printed.Numbers.{lex-number, in_word-ended}
use Rattle.json.specs.Strict.{HasUniqueKeys, ItemsHaveUniqueKeys}
use Rattle.json.proofs.Printed.Utf8.{IsUtf8-are_ascii}
use Rattle.mdl_view_text.specs.Json.{json_string}
use Rattle.mdl_view_text.specs.Layouts.{listed}
use Rattle.mdl_view_text_laws.specs.JsonTexts.{text_value, number_value, items_value, array_value}
use Rattle.mdl_view_text_laws.specs.Sizes.{AreBytes}
use Rattle.mdl_view_text_laws.proofs.Utf8.{IsUtf8-json_string, ascii_then}
use Rattle.mdl_view_text_laws.proofs.Strings.{lex-json_string}
use Rattle.mdl_view_text_laws.proofs.Lexemes.{lexemes, first_items, more_items}

-- a text is lexed to a value's lexemes before a bracket, a comma, a space or the end. The value's arrays and objects nest no deeper than the number
pub record Spells (deepest : ℕ) (text : List ℕ) (tree : Json) : Type 0 where
  pub lexed : (r : List ℕ) → ends_word r ≡ true → lex between (text ++ r) ≡ lexemes tree ++ lex between r
  pub shallow : depth tree ≤ deepest
  pub utf8 : IsUtf8 text
  pub unique : HasUniqueKeys tree

pub deeper : {text : List ℕ} {tree : Json} (d e : ℕ) → d ≤ e → Spells d text tree → Spells e text tree
deeper d e h s = record { lexed = s.lexed; shallow = omega (arith, h, s.shallow); utf8 = s.utf8; unique = s.unique }

pub spells_text : (d : ℕ) (bytes : List ℕ) → AreBytes bytes → Spells d (json_string bytes) (text_value bytes)
spells_text d bytes h = record { lexed = λ r ends. lex-json_string bytes r h; shallow = omega arith; utf8 = IsUtf8-json_string bytes h; unique = tt }

pub spells_number : (d n : ℕ) → n < 2 ^ 64 → Spells d (decimal n) (number_value n)
spells_number d n h = record {
  lexed = λ r ends. lex-number (decimal n) r (IsNumber-decimal n h) ends;
  shallow = omega arith;
  utf8 = IsUtf8-from_ascii (decimal n) (IsAscii-decimal n h);
  unique = tt;
}

pub spells_one : (d : ℕ) → Spells d (codes "1") (number (codes "1"))
unfolding after_number
spells_one d = record { lexed = λ r ends. lex-number (codes "1") r refl ends; shallow = omega arith; utf8 = IsUtf8-are_ascii (codes "1") refl; unique = tt }

pub spells_null : (d : ℕ) → Spells d (codes "null") null
unfolding lex word
spells_null d = record {
  lexed = λ r ends. ap₂ (λ b l. token (cond b spec.null spec.bad) ∷ l) ends (in_word-ended r ends);
  shallow = omega arith;
  utf8 = IsUtf8-are_ascii (codes "null") refl;
  unique = tt;
}

-- ---- arrays

module _ {X : Type 0} (d : ℕ) (text : ℕ → X → List ℕ) (read : ℕ → X → Json) where
  -- an element is spelled at each place
  abbrev pub IsSpelled : X → Type 0
  IsSpelled x = (place : ℕ) → Spells d (text place x) (read place x)

  ends-more : (place : ℕ) (xs : List X) (r : List ℕ) → ends_word (listed (44 ∷ []) text (suc place) xs ++ 93 ∷ r) ≡ true
  ends-more place [] r = refl
  ends-more place (x ∷ xs) r = refl

  lex-more : (place : ℕ) (xs : List X) (r : List ℕ) → All IsSpelled xs → lex between (listed (44 ∷ []) text (suc place) xs ++ 93 ∷ r) ≡ more_items (items_value read (suc place) xs) ++ lex between r
  unfolding lex
  lex-more place [] r h = refl
  lex-more place (x ∷ xs) r h = ap (λ l. comma ∷ l) (
      ap (lex between) (append_assoc (text (suc place) x) (listed (44 ∷ []) text (suc (suc place)) xs) (93 ∷ r))
      ∙ (h 0 x (omega arith) (suc place)).lexed _ (ends-more (suc place) xs r)
      ∙ ap (λ l. lexemes (read (suc place) x) ++ l) (lex-more (suc place) xs r (λ k y l. h (suc k) y (omega arith)))
      ∙ sym (append_assoc (lexemes (read (suc place) x)) (more_items (items_value read (suc (suc place)) xs)) (lex between r)))

  lex-first : (xs : List X) (r : List ℕ) → All IsSpelled xs → lex between (listed (44 ∷ []) text 0 xs ++ 93 ∷ r) ≡ first_items (items_value read 0 xs) ++ lex between r
  unfolding lex
  lex-first [] r h = refl
  lex-first (x ∷ xs) r h =
      ap (lex between) (append_assoc (text 0 x) (listed (44 ∷ []) text 1 xs) (93 ∷ r))
      ∙ (h 0 x (omega arith) 0).lexed _ (ends-more 0 xs r)
      ∙ ap (λ l. lexemes (read 0 x) ++ l) (lex-more 0 xs r (λ k y l. h (suc k) y (omega arith)))
      ∙ sym (append_assoc (lexemes (read 0 x)) (more_items (items_value read 1 xs)) (lex between r))

  shallow-items : (place : ℕ) (xs : List X) → All IsSpelled xs → items_depth (items_value read place xs) ≤ d
  shallow-items place [] h = omega arith
  shallow-items place (x ∷ xs) h = omega (arith, (h 0 x (omega arith) place).shallow, shallow-items (suc place) xs (λ k y l. h (suc k) y (omega arith)))

  utf8-more : (place : ℕ) (xs : List X) → All IsSpelled xs → IsUtf8 (listed (44 ∷ []) text (suc place) xs)
  utf8-more place [] h = IsUtf8-nil
  utf8-more place (x ∷ xs) h =
      IsUtf8-append (44 ∷ text (suc place) x) (listed (44 ∷ []) text (suc (suc place)) xs) (ascii_then (44 ∷ []) refl (text (suc place) x) (h 0 x (omega arith) (suc place)).utf8)
      (utf8-more (suc place) xs (λ k y l. h (suc k) y (omega arith)))

  utf8-first : (xs : List X) → All IsSpelled xs → IsUtf8 (listed (44 ∷ []) text 0 xs)
  utf8-first [] h = IsUtf8-nil
  utf8-first (x ∷ xs) h = IsUtf8-append (text 0 x) (listed (44 ∷ []) text 1 xs) (h 0 x (omega arith) 0).utf8 (utf8-more 0 xs (λ k y l. h (suc k) y (omega arith)))

  unique-items : (place : ℕ) (xs : List X) → All IsSpelled xs → ItemsHaveUniqueKeys (items_value read place xs)
  unique-items place [] h = tt
  unique-items place (x ∷ xs) h = ((h 0 x (omega arith) place).unique, unique-items (suc place) xs (λ k y l. h (suc k) y (omega arith)))

  pub spells_array : (xs : List X) → All IsSpelled xs → Spells (suc d) (91 ∷ (listed (44 ∷ []) text 0 xs ++ 93 ∷ [])) (array_value read xs)
  unfolding lex
  spells_array xs h = record {
    lexed = λ r ends. ap (λ l. token spec.begin_array ∷ l) (ap (lex between) (append_assoc (listed (44 ∷ []) text 0 xs) (93 ∷ []) r) ∙ lex-first xs r h);
    shallow = omega (arith, shallow-items 0 xs h);
    utf8 = ascii_then (91 ∷ []) refl _ (IsUtf8-append (listed (44 ∷ []) text 0 xs) (93 ∷ []) (utf8-first xs h) (IsUtf8-are_ascii (93 ∷ []) refl));
    unique = unique-items 0 xs h;
  }

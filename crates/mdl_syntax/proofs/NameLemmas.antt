-- Names are text.
use Rattle.std.proofs.Common.{◌≡◌, ℕ, ◌+◌, ◌<◌, Bool, true, false, not, cond, nat_lt, ◌==◌, List, length, take, drop, refl, sym, arith}
use Rattle.std.specs.Prelude.{Option, Some, None, position}
use Rattle.std.specs.Option.{option_and_then, option_map}
use Rattle.std.specs.Str.{IsUtf8}
use Rattle.std.proofs.lemmas.Bool.Decides.{nat_tests}
use Rattle.std.proofs.lemmas.List.Elements.{All-weaker}
use Rattle.std.proofs.lemmas.Str.{IsUtf8-from_ascii}
use Rattle.std.proofs.lemmas.Str.Ascii.{IsAscii-from_all}
use Rattle.mdl_key.specs.declared.key_error.KeyError.{KeyError}
use Rattle.mdl_key.specs.declared.key_error.KeyError.TheVariants.{EmptyName, LongName, BadByte}
use Rattle.mdl_key.specs.Keys.{is_name_byte, name_fault, table_key}
use Rattle.mdl_key.specs.Limits.{longest_name}
use Rattle.mdl_syntax.specs.Names.{is_dot, name_of, table_in, table_of, unless_fault}
use Rattle.mdl_syntax.proofs.WordLemmas.{found_at, none_passes}

no_bad_byte : (empty long : Bool) (at : Option ℕ) → cond empty (Some EmptyName) (cond long (Some LongName) (option_map (λ place. BadByte place) at)) ≡ None → at ≡ None
no_bad_byte true long at e = absurd (cc)
no_bad_byte false true at e = absurd (cc)
no_bad_byte false false None e = refl
no_bad_byte false false (Some at) e = absurd (cc)

low : (byte : ℕ) → not (is_name_byte byte) ≡ false → byte < 128
low byte h = grind (arith, nat_tests)

faultless-IsUtf8 : (word : List ℕ) → name_fault word ≡ None → IsUtf8 word
faultless-IsUtf8 word e =
    IsUtf8-from_ascii word (IsAscii-from_all word (All-weaker (λ b. not (is_name_byte b) ≡ false) (λ b. b < 128) low word
    (none_passes (λ b. not (is_name_byte b)) word (sym (no_bad_byte (length word == 0) (nat_lt longest_name (length word)) (position (λ b. not (is_name_byte b)) word) e)))))

-- what is no text is no name
pub name_of-no_text : (word : List ℕ) → (IsUtf8 word → ⊥) → name_of word ≡ None
name_of-no_text word bad = by (name_fault word) refl where
  by : (fault : Option KeyError) → name_fault word ≡ fault → unless_fault fault word ≡ None
  by None is = absurd (bad (faultless-IsUtf8 word is))
  by (Some fault) is = refl

-- a table's word, cut at its first dot
pub table_of-dot : (word : List ℕ) (at : ℕ) → Some at ≡ position is_dot word → table_of word ≡ table_in (take at word) (drop (at + 1) word)
table_of-dot word at e = let found = found_at is_dot word at e in grind (arith, nat_tests)

-- a name is its word
pub name_of-word : (word name : List ℕ) → name_of word ≡ Some name → word ≡ name
name_of-word word name = by (name_fault word) where
  by : (fault : Option KeyError) → unless_fault fault word ≡ Some name → word ≡ name
  by None e = cc
  by (Some fault) e = absurd (cc)

-- no table without a name
pub table_in-no_table : (schema table : List ℕ) → name_of table ≡ None → table_in schema table ≡ None
table_in-no_table schema table e = by (name_of schema) (name_of table) e where
  by : (of named : Option (List ℕ)) → named ≡ None → option_and_then (λ s. option_map (λ t. table_key s t) named) of ≡ None
  by None named e = refl
  by (Some s) None e = refl
  by (Some s) (Some t) e = absurd (cc)

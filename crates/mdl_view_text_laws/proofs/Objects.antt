-- Objects spell their values, if the values of their members are spelled and no two keys are equal.
use Rattle.std.proofs.Common.{true≢false, ◌≢◌, not, ◌&&◌, get_or, bytes_eq, IsUtf8, ◌≡◌, ℕ, zero, suc, ◌<◌, ◌≤◌, Bool, true, List, [], ◌∷◌, ◌++◌, length, refl, sym, ap, ◌∙◌, subst, arith, append_assoc}
use Rattle.std.proofs.lemmas.Bool.{and_parts, not-true}
use Rattle.std.proofs.lemmas.Slice.Eq.{bytes_eq-Decides}
use Rattle.std.proofs.lemmas.Str.{IsUtf8-append}
use Rattle.std.specs.List.{list_all}
use Rattle.json.specs.Run.{is_plain}
use Rattle.json.specs.Json.{Json}
use Rattle.json.specs.Token as spec
use Rattle.json.specs.Word.{ends_word}
use Rattle.json.specs.Lex.{Lexeme, token, comma, colon, lex, between}
use Rattle.json.specs.Tree.{members_depth}
use Rattle.json.specs.Strict.{AreDistinct, MembersHaveUniqueKeys, keys}
use Rattle.json.proofs.Printed.Utf8.{IsUtf8-are_ascii, are_ascii}
use Rattle.mdl_view_text_laws.specs.JsonTexts.{members_value, object_value}
use Rattle.mdl_view_text_laws.proofs.Utf8.{ascii_then}
use Rattle.mdl_view_text_laws.proofs.Strings.{lex-key}
use Rattle.mdl_view_text_laws.proofs.Lexemes.{lexemes, more_members}
use Rattle.mdl_view_text_laws.proofs.Spelling.{Spells}

-- a test of keys: no two are equal
abbrev pub are_distinct : List (List ℕ) → Bool
are_distinct [] = true
are_distinct (k ∷ ks) = list_all (λ l. not (bytes_eq k l)) ks && are_distinct ks

differs_from : (k : List ℕ) (ks : List (List ℕ)) → list_all (λ l. not (bytes_eq k l)) ks ≡ true → (j : ℕ) (d : List ℕ) → j < length ks → k ≢ get_or ks j d
differs_from k [] h j d l = absurd (omega arith)
differs_from k (first ∷ ks) h zero d l =
    let parts = and_parts (not (bytes_eq k first)) (list_all (λ l. not (bytes_eq k l)) ks) h in
    λ e. true≢false (sym ((bytes_eq-Decides k first).1 e) ∙ not-true _ parts.0)
differs_from k (first ∷ ks) h (suc j) d l = differs_from k ks (and_parts (not (bytes_eq k first)) (list_all (λ l. not (bytes_eq k l)) ks) h).1 j d (omega arith)

distinct_by_test : (ks : List (List ℕ)) → are_distinct ks ≡ true → AreDistinct ks
distinct_by_test [] h i j d less l = absurd (omega arith)
distinct_by_test (k ∷ ks) h zero zero d less l = absurd (omega arith)
distinct_by_test (k ∷ ks) h zero (suc j) d less l = differs_from k ks (and_parts (list_all (λ l. not (bytes_eq k l)) ks) (are_distinct ks) h).0 j d (omega arith)
distinct_by_test (k ∷ ks) h (suc i) zero d less l = absurd (omega arith)
distinct_by_test (k ∷ ks) h (suc i) (suc j) d less l =
    distinct_by_test ks (and_parts (list_all (λ l. not (bytes_eq k l)) ks) (are_distinct ks) h).1 i j d (omega arith) (omega arith)

-- a member: its key, its value's text, and what that is read as
pub record Member (d : ℕ) : Type 0 where
  pub key : List ℕ
  pub text : List ℕ
  pub tree : Json
  -- the text before another one
  pub onto : List ℕ → List ℕ
  pub onto_is : (rest : List ℕ) → onto rest ≡ text ++ rest
  pub key_utf8 : IsUtf8 key
  pub keyed : (r : List ℕ) → lex between (34 ∷ (key ++ 34 ∷ 58 ∷ r)) ≡ token (spec.string key) ∷ colon ∷ lex between r
  pub spelled : Spells d text tree

module _ {d : ℕ} where
  -- members behind a comma, and the closing bracket
  abbrev pub more_text : List (Member d) → List ℕ
  more_text [] = 125 ∷ []
  more_text (m ∷ ms) = 44 ∷ 34 ∷ (m.key ++ 34 ∷ 58 ∷ m.onto (more_text ms))

  abbrev pub object_text : Member d → List (Member d) → List ℕ
  object_text m ms = 123 ∷ 34 ∷ (m.key ++ 34 ∷ 58 ∷ m.onto (more_text ms))

  abbrev pub trees_of : List (Member d) → List (List ℕ × Json)
  trees_of [] = []
  trees_of (m ∷ ms) = (m.key, m.tree) ∷ trees_of ms

  ends-more_text : (ms : List (Member d)) (r : List ℕ) → ends_word (more_text ms ++ r) ≡ true
  ends-more_text [] r = refl
  ends-more_text (m ∷ ms) r = refl

  lex-member : (m : Member d) (rest r : List ℕ) (ls : List Lexeme) → ends_word (rest ++ r) ≡ true → lex between (rest ++ r) ≡ ls ++ lex between r
      → lex between (34 ∷ ((m.key ++ 34 ∷ 58 ∷ m.onto rest) ++ r)) ≡ token (spec.string m.key) ∷ colon ∷ ((lexemes m.tree ++ ls) ++ lex between r)
  lex-member m rest r ls ends more =
      ap (λ l. lex between (34 ∷ ((m.key ++ 34 ∷ 58 ∷ l) ++ r))) (m.onto_is rest)
      ∙ ap (λ l. lex between (34 ∷ l)) (append_assoc m.key (34 ∷ 58 ∷ (m.text ++ rest)) r)
      ∙ m.keyed ((m.text ++ rest) ++ r)
      ∙ ap (λ l. token (spec.string m.key) ∷ colon ∷ l) (
      ap (lex between) (append_assoc m.text rest r)
      ∙ m.spelled.lexed (rest ++ r) ends
      ∙ ap (λ l. lexemes m.tree ++ l) more
      ∙ sym (append_assoc (lexemes m.tree) ls (lex between r)))

  lex-more_text : (ms : List (Member d)) (r : List ℕ) → lex between (more_text ms ++ r) ≡ more_members (members_value (trees_of ms)) ++ lex between r
  unfolding lex
  lex-more_text [] r = refl
  lex-more_text (m ∷ ms) r = ap (λ l. comma ∷ l) (lex-member m (more_text ms) r _ (ends-more_text ms r) (lex-more_text ms r))

  shallow-members : (ms : List (Member d)) → members_depth (members_value (trees_of ms)) ≤ d
  shallow-members [] = omega arith
  shallow-members (m ∷ ms) = omega (arith, m.spelled.shallow, shallow-members ms)

  utf8-member : (m : Member d) (rest : List ℕ) → IsUtf8 rest → IsUtf8 (34 ∷ (m.key ++ 34 ∷ 58 ∷ m.onto rest))
  utf8-member m rest h =
      ascii_then (34 ∷ []) refl _ (IsUtf8-append m.key (34 ∷ 58 ∷ m.onto rest) m.key_utf8
      (ascii_then (34 ∷ 58 ∷ []) refl _ (subst IsUtf8 (sym (m.onto_is rest)) (IsUtf8-append m.text rest m.spelled.utf8 h))))

  utf8-more_text : (ms : List (Member d)) → IsUtf8 (more_text ms)
  utf8-more_text [] = IsUtf8-are_ascii (125 ∷ []) refl
  utf8-more_text (m ∷ ms) = ascii_then (44 ∷ []) refl _ (utf8-member m (more_text ms) (utf8-more_text ms))

  unique-members : (ms : List (Member d)) → MembersHaveUniqueKeys (members_value (trees_of ms))
  unique-members [] = tt
  unique-members (m ∷ ms) = (m.spelled.unique, unique-members ms)

  pub spells_object : (m : Member d) (ms : List (Member d)) → are_distinct (keys (members_value (trees_of (m ∷ ms)))) ≡ true → Spells (suc d) (object_text m ms) (object_value (trees_of (m ∷ ms)))
  unfolding lex
  spells_object m ms distinct = record {
    lexed = λ r ends. ap (λ l. token spec.begin_object ∷ l) (lex-member m (more_text ms) r _ (ends-more_text ms r) (lex-more_text ms r));
    shallow = omega (arith, shallow-members (m ∷ ms));
    utf8 = ascii_then (123 ∷ []) refl _ (utf8-member m (more_text ms) (utf8-more_text ms));
    unique = (distinct_by_test (keys (members_value (trees_of (m ∷ ms)))) distinct, unique-members (m ∷ ms));
  }

pub keyed_by : (key r : List ℕ) → list_all is_plain key ≡ true → lex between (34 ∷ (key ++ 34 ∷ 58 ∷ r)) ≡ token (spec.string key) ∷ colon ∷ lex between r
unfolding lex
keyed_by key r h = lex-key key (58 ∷ r) h

-- a key that needs no escapes
abbrev pub is_key : List ℕ → Bool
is_key key = list_all is_plain key && are_ascii key

pub key_parts : (key : List ℕ) → is_key key ≡ true → (list_all is_plain key ≡ true) × (are_ascii key ≡ true)
key_parts key h = and_parts (list_all is_plain key) (are_ascii key) h

-- a member with such a key
abbrev pub named : {d : ℕ} {text : List ℕ} {tree : Json} (key : List ℕ) → is_key key ≡ true → Spells d text tree → Member d
named {text = text} {tree = tree} key h s = record {
  key = key;
  text = text;
  tree = tree;
  onto = λ rest. text ++ rest;
  onto_is = λ rest. refl;
  key_utf8 = IsUtf8-are_ascii key (key_parts key h).1;
  keyed = λ r. keyed_by key r (key_parts key h).0;
  spelled = s;
}

-- the same with an array of these elements
abbrev pub named_array : {d : ℕ} {tree : Json} (key : List ℕ) → is_key key ≡ true → (inside : List ℕ) → Spells d (91 ∷ (inside ++ 93 ∷ [])) tree → Member d
named_array {tree = tree} key h inside s = record {
  key = key;
  text = 91 ∷ (inside ++ 93 ∷ []);
  tree = tree;
  onto = λ rest. 91 ∷ (inside ++ 93 ∷ rest);
  onto_is = λ rest. ap (λ l. 91 ∷ l) (sym (append_assoc inside (93 ∷ []) rest));
  key_utf8 = IsUtf8-are_ascii key (key_parts key h).1;
  keyed = λ r. keyed_by key r (key_parts key h).0;
  spelled = s;
}

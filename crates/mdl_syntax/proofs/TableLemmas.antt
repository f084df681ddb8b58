-- Tables that words name, one after the other.
use Rattle.std.proofs.Common.{◌≡◌, ℕ, ◌+◌, ◌<◌, ◌≤◌, Bool, false, ◌||◌, List, [], ◌∷◌, ◌++◌, length, take, set, refl, sym, ap, ◌∙◌, add-one, arith}
use Rattle.std.specs.Prelude.{map, Some, Result, Ok, Err}
use Rattle.std.specs.List.{list_any}
use Rattle.std.proofs.lemmas.Bool.Decides.{nat_tests}
use Rattle.std.proofs.lemmas.List.{length-map, length-take-le, map-append}
use Rattle.std.proofs.Math.Seq.{take-suc-set}
use Rattle.mdl_key.specs.Keys.{KeyName, key_eq}
use Rattle.mdl_lines.specs.declared.fault.LineError.{LineError}
use Rattle.mdl_lines.specs.declared.fault.LineError.TheVariants.{BadWord}
use Rattle.mdl_syntax.specs.Forms.{each_word, listed, next_table}
use Rattle.mdl_syntax.specs.Names.{table_of}

-- what is listed is what each word adds, where they add something
pub listed-some : {A : Type 0} (adds : List A → List ℕ → Result (List A) LineError) (words : List (List ℕ)) (values : List A) → each_word adds [] words ≡ Ok values → (values ≡ [] → ⊥) → listed adds words ≡ Ok values
listed-some adds [] values e some = absurd (some (cc))
listed-some adds (word ∷ words) values e some = e

pub next_table-full : (tables : List KeyName) (word : List ℕ) → 8 ≤ length tables → next_table tables word ≡ Err BadWord
next_table-full tables word full = grind (arith, nat_tests)

pub next_table-new : (tables : List KeyName) (word : List ℕ) (table : KeyName) → length tables < 8 → table_of word ≡ Some table → list_any (key_eq table) tables ≡ false → next_table tables word ≡ Ok table
next_table-new tables word table room named new = grind (arith, nat_tests)

pub list_any-map : {A B : Type 0} (test : B → Bool) (shows : A → B) (xs : List A) → list_any test (map shows xs) ≡ list_any (λ x. test (shows x)) xs
list_any-map test shows [] = refl
list_any-map test shows (x ∷ xs) = ap (λ b. test (shows x) || b) (list_any-map test shows xs)

-- tables that are shown by the first places of an array of eight
module _ {A : Type 0} (shows : A → KeyName) (names : List A) (count : ℕ) (tables : List KeyName) (word : List ℕ) where
  pub add-full : tables ≡ map shows (take count names) → length names ≡ 8 → count ≡ 8 → next_table tables word ≡ Err BadWord
  add-full shown eight full = next_table-full tables word (omega (arith, ap length shown, length-map (take count names) shows, length-take-le count names (omega (arith, eight, full)), full))

  pub add-more : (name : A) → tables ≡ map shows (take count names) → length names ≡ 8 → count < 8 → table_of word ≡ Some (shows name) → list_any (key_eq (shows name)) tables ≡ false
      → (next_table tables word ≡ Ok (shows name)) × (map shows (take (count + 1) (set names count name)) ≡ tables ++ shows name ∷ [])
  add-more name shown eight room named new =
      let taken = length-take-le count names (omega (arith, eight, room)) in
      let few : length tables < 8 = omega (arith, ap length shown, length-map (take count names) shows, taken, room) in (
        next_table-new tables word (shows name) few named new,
        ap (λ n. map shows (take n (set names count name))) (add-one count)
            ∙ ap (map shows) (take-suc-set names count name (omega (arith, eight, room)))
            ∙ map-append shows (take count names) (name ∷ [])
            ∙ ap (λ before. before ++ shows name ∷ []) (sym shown),
      )

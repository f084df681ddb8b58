-- How words give an option of a command line, and what a parse reads of an option.
use Rattle.std.specs.Prelude.{◌≡◌, ◌⊎◌, ◌++◌, ℕ, List, [], ◌∷◌, Option, Some, codes, false}
use Rattle.std.specs.Str.Parse.{starts_with_minus}
use Rattle.clap.specs.Simple.{new_rule}
use Rattle.clap.specs.Walk.{Rule}
use Rattle.clap.specs.declared.builder.action.ArgAction.TheVariants.{Set, SetTrue}
use Rattle.clap.specs.declared.builder.value_parser.ValueParser.{ValueParser}

-- the words that give the option of this name this text: in the same word, after a `=`, or in the next word, if it doesn't begin with `-`
abbrev pub GiveText : List ℕ → List ℕ → List (List ℕ) → Type 0
GiveText name text words = (words ≡ (codes "--" ++ name ++ codes "=" ++ text) ∷ [])
    ⊎ ((words ≡ (codes "--" ++ name) ∷ text ∷ []) × (starts_with_minus text ≡ false))

-- nothing, or `--`, which says only that the options end
abbrev pub CloseOptions : List (List ℕ) → Type 0
CloseOptions words = (words ≡ []) ⊎ (words ≡ codes "--" ∷ [])

-- what a parse reads of an option without a value, and of one with a value, with the texts that are found if it isn't given
abbrev pub flag_rule : List ℕ → Rule
flag_rule name = record (new_rule name) { long = Some name; action = Some SetTrue }

abbrev pub value_rule : List ℕ → Option ValueParser → List (List ℕ) → Rule
value_rule name parser defaults = record (new_rule name) {
  long = Some name;
  action = Some Set;
  value_names = 1;
  parser = parser;
  defaults = defaults;
}

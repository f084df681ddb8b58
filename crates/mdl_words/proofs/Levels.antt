-- A level of a command line, by its options: what a parse makes of them, for names that are written out.
use Rattle.std.proofs.Common.{◌≡◌, ◌⊎◌, ◌&&◌, ◌==◌, true, false, Bool, ℕ, List, [], ◌∷◌, ◌++◌, Option, Some, None, codes}
use Rattle.std.specs.List.{list_all}
use Rattle.std.specs.Str.{bytes_eq}
use Rattle.clap.specs.Lexer.{long_of}
use Rattle.clap.specs.Simple.{Shape, filled, new_shape}
use Rattle.clap.specs.Takes.{default_passes, is_valid}
use Rattle.clap.specs.Walk.{Row, Rule, Text, Walk, arg_by_id, arg_by_index, arg_by_long, arg_by_short, nothing_held, walk_from}
use Rattle.clap.specs.declared.builder.value_parser.ValueParser.{ValueParser}
use Rattle.mdl_words.specs.Words.{flag_rule, value_rule}
use Rattle.mdl_words.proofs.ShortOptions.{dash, help_if}

-- a command without subcommands as clap builds it, with these rules
abbrev pub shape_of : Text → List Rule → Shape
shape_of name rules = record (new_shape name) { rules = rules; disable_help_subcommand = true; is_built = true }

abbrev pub start : Walk
start = walk_from nothing_held

-- nothing more, or a closing `--`
abbrev pub IsEnd : List Text → Type 0
IsEnd words = (words ≡ []) ⊎ (words ≡ dash ∷ [])

-- options without a value and with one, and the rules of a level that has them and `--help`, whose one short option is `-h`
pub record Level : Type 1 where
  pub Flag : Type 0
  pub Valued : Type 0
  pub flag_id : Flag → Text
  pub value_id : Valued → Text
  pub parser_of : Valued → Option ValueParser
  pub defaults_of : Valued → List Text
  pub rules : List Rule
  pub short : (x : ℕ) → arg_by_short rules x ≡ help_if (104 == x)
  pub no_index : arg_by_index rules 1 ≡ None
  -- a long name is that of an option, or calls for help, or is unknown
  pub by_long : (n : Text) → ((f : Flag) × (flag_id f ≡ n)) ⊎ (((o : Valued) × (value_id o ≡ n)) ⊎ ((b : Bool) × (arg_by_long rules n ≡ help_if b)))
  pub flag_long : (f : Flag) → arg_by_long rules (flag_id f) ≡ Some (filled (flag_rule (flag_id f)))
  pub value_long : (o : Valued) → arg_by_long rules (value_id o) ≡ Some (filled (value_rule (value_id o) (parser_of o) (defaults_of o)))
  pub value_by_id : (o : Valued) → arg_by_id rules (value_id o) ≡ Some (filled (value_rule (value_id o) (parser_of o) (defaults_of o)))
  pub value_self : (o : Valued) → bytes_eq (value_id o) (value_id o) ≡ true
  -- the words of options are those of long options
  pub flag_dash : (f : Flag) → bytes_eq (codes "--" ++ flag_id f) dash ≡ false
  pub flag_word : (f : Flag) → long_of (codes "--" ++ flag_id f) ≡ Some (flag_id f, None)
  pub value_dash : (o : Valued) → bytes_eq (codes "--" ++ value_id o) dash ≡ false
  pub with_dash : (o : Valued) (t : Text) → bytes_eq (codes "--" ++ value_id o ++ codes "=" ++ t) dash ≡ false
  pub value_word : (o : Valued) → long_of (codes "--" ++ value_id o) ≡ Some (value_id o, None)
  pub value_with : (o : Valued) (t : Text) → long_of (codes "--" ++ value_id o ++ codes "=" ++ t) ≡ Some (value_id o, Some t)
  -- defaults pass, and nothing is required
  pub ends : (rows : List Row) → (list_all default_passes rules && is_valid (shape_of [] rules) rows false) ≡ true

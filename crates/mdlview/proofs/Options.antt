-- The options of `mdlview`, which each of its subcommands has.
use Rattle.std.proofs.Common.{◌≡◌, ◌⊎◌, inl, inr, refl, true, false, Bool, List, [], ◌∷◌, ◌++◌, Option, Some, None, codes}
use Rattle.std.specs.Str.{bytes_eq}
use Rattle.std.proofs.lemmas.Slice.Eq.{bytes_eq-Decides}
use Rattle.clap.specs.Lexer.{long_of}
use Rattle.clap.specs.Simple.{filled, help_rule}
use Rattle.clap.specs.Walk.{Rule, Text, arg_by_id, arg_by_long}
use Rattle.clap.specs.declared.builder.value_parser.ValueParser.{ValueParser}
use Rattle.clap.specs.declared.builder.value_parser.ValueParser.TheVariants.{Unsigned}
use Rattle.mdl_words.specs.Words.{flag_rule, value_rule}
use Rattle.mdl_words.proofs.Levels.{Level}
use Rattle.mdl_words.proofs.ShortOptions.{help_if}
use Rattle.mdlview.specs.CommandLine.{at_rule, html_rule, json_rule, last_line, script_rule, server_rule}

-- those without a value, and those with one
pub data Flag : Type 0 where
  Script : Flag
  Json : Flag
  Html : Flag

pub data Valued : Type 0 where
  At : Valued
  ServerName : Valued

abbrev pub flag_id : Flag → Text
flag_id Script = codes "script"
flag_id Json = codes "json"
flag_id Html = codes "html"

abbrev pub value_id : Valued → Text
value_id At = codes "at"
value_id ServerName = codes "server"

abbrev pub parser_of : Valued → Option ValueParser
parser_of At = Some (Unsigned 1 last_line)
parser_of ServerName = None

abbrev pub flag_rule_of : Flag → Rule
flag_rule_of f = filled (flag_rule (flag_id f))

abbrev pub value_rule_of : Valued → Rule
value_rule_of o = filled (value_rule (value_id o) (parser_of o) [])

abbrev pub rules : List Rule
rules = filled script_rule ∷ filled at_rule ∷ filled json_rule ∷ filled server_rule ∷ filled html_rule ∷ filled help_rule ∷ []

abbrev pub Long : Text → Type 0
Long n = ((f : Flag) × (flag_id f ≡ n)) ⊎ (((o : Valued) × (value_id o ≡ n)) ⊎ ((b : Bool) × (arg_by_long rules n ≡ help_if b)))

pub long_is : (n : Text) → Long n
long_is n =
    go (bytes_eq (codes "script") n) (bytes_eq (codes "at") n) (bytes_eq (codes "json") n) (bytes_eq (codes "server") n) (bytes_eq (codes "html") n)
    refl refl refl refl refl
  where
    go : (s a j v h : Bool) → bytes_eq (codes "script") n ≡ s → bytes_eq (codes "at") n ≡ a → bytes_eq (codes "json") n ≡ j → bytes_eq (codes "server") n ≡ v
        → bytes_eq (codes "html") n ≡ h → Long n
    go true a j v h is at json server html = inl (Script, (bytes_eq-Decides (codes "script") n).0 is)
    go false true j v h script is json server html = inr (inl (At, (bytes_eq-Decides (codes "at") n).0 is))
    go false false true v h script at is server html = inl (Json, (bytes_eq-Decides (codes "json") n).0 is)
    go false false false true h script at json is html = inr (inl (ServerName, (bytes_eq-Decides (codes "server") n).0 is))
    go false false false false true script at json server is = inl (Html, (bytes_eq-Decides (codes "html") n).0 is)
    go false false false false false script at json server html = inr (inr (bytes_eq (codes "help") n, rw (script, at, json, server, html) refl))

pub by_flag : (P : Flag → Type 0) → P Script → P Json → P Html → (f : Flag) → P f
by_flag P s j h Script = s
by_flag P s j h Json = j
by_flag P s j h Html = h

pub by_value : (P : Valued → Type 0) → P At → P ServerName → (o : Valued) → P o
by_value P a s At = a
by_value P a s ServerName = s

abbrev pub options : Level
options = record {
  Flag = Flag;
  Valued = Valued;
  flag_id = flag_id;
  value_id = value_id;
  parser_of = parser_of;
  defaults_of = λ o. [];
  rules = rules;
  short = λ x. refl;
  no_index = refl;
  by_long = long_is;
  flag_long = by_flag (λ f. arg_by_long rules (flag_id f) ≡ Some (flag_rule_of f)) refl refl refl;
  value_long = by_value (λ o. arg_by_long rules (value_id o) ≡ Some (value_rule_of o)) refl refl;
  value_by_id = by_value (λ o. arg_by_id rules (value_id o) ≡ Some (value_rule_of o)) refl refl;
  value_self = by_value (λ o. bytes_eq (value_id o) (value_id o) ≡ true) refl refl;
  flag_dash = by_flag (λ f. bytes_eq (codes "--" ++ flag_id f) (codes "--") ≡ false) refl refl refl;
  flag_word = by_flag (λ f. long_of (codes "--" ++ flag_id f) ≡ Some (flag_id f, None)) refl refl refl;
  value_dash = by_value (λ o. bytes_eq (codes "--" ++ value_id o) (codes "--") ≡ false) refl refl;
  with_dash = by_value (λ o. (t : Text) → bytes_eq (codes "--" ++ value_id o ++ codes "=" ++ t) (codes "--") ≡ false) (λ t. refl) (λ t. refl);
  value_word = by_value (λ o. long_of (codes "--" ++ value_id o) ≡ Some (value_id o, None)) refl refl;
  value_with = by_value (λ o. (t : Text) → long_of (codes "--" ++ value_id o ++ codes "=" ++ t) ≡ Some (value_id o, Some t)) (λ t. refl) (λ t. refl);
  ends = λ rows. refl;
}

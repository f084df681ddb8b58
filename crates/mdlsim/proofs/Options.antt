-- The options of the subcommands of `mdlsim`.
use Rattle.std.proofs.Common.{◌≡◌, ◌⊎◌, inl, inr, refl, true, false, Bool, List, [], ◌∷◌, ◌++◌, Some, None, codes, map, pos}
use Rattle.std.specs.Prelude.{⊤}
use Rattle.std.specs.Str.{bytes_eq}
use Rattle.std.proofs.lemmas.Slice.Eq.{bytes_eq-Decides}
use Rattle.clap.specs.Lexer.{long_of}
use Rattle.clap.specs.Simple.{filled, help_rule}
use Rattle.clap.specs.Walk.{Rule, Text, arg_by_id, arg_by_long}
use Rattle.clap.specs.declared.builder.value_parser.ValueParser.{ValueParser}
use Rattle.clap.specs.declared.builder.value_parser.ValueParser.TheVariants.{Signed}
use Rattle.mdl_words.proofs.Levels.{Level}
use Rattle.mdl_words.proofs.ShortOptions.{help_if}
use Rattle.mdlsim.specs.CommandLine.{NumberOption, cache_option, lock_subcommand, number_rule, patience_option, run_subcommand}

-- the names of the subcommands
abbrev pub lock : Text
lock = codes "lock"

abbrev pub matrix : Text
matrix = codes "matrix"

abbrev pub replay : Text
replay = codes "replay"

abbrev pub explain : Text
explain = codes "explain"

abbrev pub run : Text
run = codes "run"

-- ---- a subcommand without options, which has `--help` alone

abbrev pub no_options : Level
no_options = record {
  Flag = ⊥;
  Valued = ⊥;
  flag_id = λ f. absurd f;
  value_id = λ o. absurd o;
  parser_of = λ o. absurd o;
  defaults_of = λ o. absurd o;
  rules = filled help_rule ∷ [];
  short = λ x. refl;
  no_index = refl;
  by_long = λ n. inr (inr (bytes_eq (codes "help") n, refl));
  flag_long = λ f. absurd f;
  value_long = λ o. absurd o;
  value_by_id = λ o. absurd o;
  value_self = λ o. absurd o;
  flag_dash = λ f. absurd f;
  flag_word = λ f. absurd f;
  value_dash = λ o. absurd o;
  with_dash = λ o. absurd o;
  value_word = λ o. absurd o;
  value_with = λ o. absurd o;
  ends = λ rows. refl;
}

-- ---- `lock`, with its flag

abbrev pub lock_rules : List Rule
lock_rules = map filled lock_subcommand.top.rules ++ filled help_rule ∷ []

pub lock_long : (n : Text) → (⊤ × (codes "scoped" ≡ n)) ⊎ ((⊥ × ⊥) ⊎ ((b : Bool) × (arg_by_long lock_rules n ≡ help_if b)))
lock_long n = go (bytes_eq (codes "scoped") n) refl
  where
    go : (b : Bool) → bytes_eq (codes "scoped") n ≡ b → (⊤ × (codes "scoped" ≡ n)) ⊎ ((⊥ × ⊥) ⊎ ((b : Bool) × (arg_by_long lock_rules n ≡ help_if b)))
    go true is = inl (tt, (bytes_eq-Decides (codes "scoped") n).0 is)
    go false is = inr (inr (bytes_eq (codes "help") n, rw is refl))

abbrev pub lock_options : Level
lock_options = record {
  Flag = ⊤;
  Valued = ⊥;
  flag_id = λ f. codes "scoped";
  value_id = λ o. absurd o;
  parser_of = λ o. absurd o;
  defaults_of = λ o. absurd o;
  rules = lock_rules;
  short = λ x. refl;
  no_index = refl;
  by_long = λ n. elim (lock_long n) [
    | inl met ↦ inl met
    | inr (inl never) ↦ absurd never.0
    | inr (inr help) ↦ inr (inr help)
  ];
  flag_long = λ f. refl;
  value_long = λ o. absurd o;
  value_by_id = λ o. absurd o;
  value_self = λ o. absurd o;
  flag_dash = λ f. refl;
  flag_word = λ f. refl;
  value_dash = λ o. absurd o;
  with_dash = λ o. absurd o;
  value_word = λ o. absurd o;
  value_with = λ o. absurd o;
  ends = λ rows. refl;
}

-- ---- `run`, with two options that take a number

pub data Which : Type 0 where
  Patience : Which
  Cache : Which

abbrev pub option_of : Which → NumberOption
option_of Patience = patience_option
option_of Cache = cache_option

abbrev pub id_of : Which → Text
id_of o = (option_of o).name

-- the texts that it takes
abbrev pub number_of : Which → ValueParser
number_of o = Signed (pos (option_of o).least) (pos (option_of o).most)

abbrev pub rule_of : Which → Rule
rule_of o = filled (number_rule (option_of o))

abbrev pub run_rules : List Rule
run_rules = map filled run_subcommand.top.rules ++ filled help_rule ∷ []

abbrev pub RunLong : Text → Type 0
RunLong n = (⊥ × ⊥) ⊎ (((o : Which) × (id_of o ≡ n)) ⊎ ((b : Bool) × (arg_by_long run_rules n ≡ help_if b)))

pub run_long : (n : Text) → RunLong n
run_long n = go (bytes_eq (codes "patience") n) (bytes_eq (codes "cache") n) refl refl
  where
    go : (p c : Bool) → bytes_eq (codes "patience") n ≡ p → bytes_eq (codes "cache") n ≡ c → RunLong n
    go true c is other = inr (inl (Patience, (bytes_eq-Decides (codes "patience") n).0 is))
    go false true other is = inr (inl (Cache, (bytes_eq-Decides (codes "cache") n).0 is))
    go false false first next = inr (inr (bytes_eq (codes "help") n, rw (first, next) refl))

pub by_case : (P : Which → Type 0) → P Patience → P Cache → (o : Which) → P o
by_case P p c Patience = p
by_case P p c Cache = c

abbrev pub run_options : Level
run_options = record {
  Flag = ⊥;
  Valued = Which;
  flag_id = λ f. absurd f;
  value_id = id_of;
  parser_of = λ o. Some (number_of o);
  defaults_of = λ o. (option_of o).default ∷ [];
  rules = run_rules;
  short = λ x. refl;
  no_index = refl;
  by_long = λ n. elim (run_long n) [
    | inl never ↦ absurd never.0
    | inr (inl met) ↦ inr (inl met)
    | inr (inr help) ↦ inr (inr help)
  ];
  flag_long = λ f. absurd f;
  value_long = by_case (λ o. arg_by_long run_rules (id_of o) ≡ Some (rule_of o)) refl refl;
  value_by_id = by_case (λ o. arg_by_id run_rules (id_of o) ≡ Some (rule_of o)) refl refl;
  value_self = by_case (λ o. bytes_eq (id_of o) (id_of o) ≡ true) refl refl;
  flag_dash = λ f. absurd f;
  flag_word = λ f. absurd f;
  value_dash = by_case (λ o. bytes_eq (codes "--" ++ id_of o) (codes "--") ≡ false) refl refl;
  with_dash = by_case (λ o. (t : Text) → bytes_eq (codes "--" ++ id_of o ++ codes "=" ++ t) (codes "--") ≡ false) (λ t. refl) (λ t. refl);
  value_word = by_case (λ o. long_of (codes "--" ++ id_of o) ≡ Some (id_of o, None)) refl refl;
  value_with = by_case (λ o. (t : Text) → long_of (codes "--" ++ id_of o ++ codes "=" ++ t) ≡ Some (id_of o, Some t)) (λ t. refl) (λ t. refl);
  ends = λ rows. refl;
}

-- What words ask for, by what a parse finds in them.
use Rattle.std.proofs.Common.{◌≡◌, ◌∙◌, ◌⊎◌, inl, inr, ap, ap₂, refl, sym, subst, true, false, Bool, ℕ, List, [], ◌∷◌, ◌++◌, Option, Some, None, option_map, Result, Ok, Err, IsErrAnd, MatchResult, drop}
use Rattle.std.specs.Prelude.{fold, unwrap_or}
use Rattle.std.proofs.lemmas.List.{append_assoc}
use Rattle.std.specs.Str.Parse.{digits_value, without_leading_plus}
use Rattle.clap.specs.Matches.{found_of, subcommand_name_of}
use Rattle.clap.specs.Simple.{built, subcommand_of, subcommand_rows, subcommand_rows_of}
use Rattle.clap.specs.Walk.{Row, Text, rows_after, rows_of, stop_after, with_default}
use Rattle.clap.specs.declared.parser.matches.ArgMatches.{ArgMatches}
use Rattle.clap.specs.declared.parser.matches.ArgMatches.TheViews.{out-ArgMatches}
use Rattle.mdl_words.specs.Words.{CloseOptions}
use Rattle.mdl_words.proofs.OptionWords.{AreUsed}
use Rattle.mdl_words.proofs.Subcommands.{name_kept}
use Rattle.mdlview.specs.CommandLine.{AskBy, GiveOption, GiveOptions, Given, HasOptions, HasServer, NameSubcommand, asked_by, begins_with_option, is_option, mdlview, no_options, server_name, subcommand_name}
use Rattle.mdlview.specs.CommandLine.Given.{Script as script_given, Json as json_given, At as line_given, ServerOf, Html as html_given}
use Rattle.mdlview.specs.declared.asked.Asked.{Asked}
use Rattle.mdlview.specs.declared.asked.Options.{Options}
use Rattle.mdlview.specs.declared.asked.Subcommand.{Subcommand}
use Rattle.mdlview.specs.declared.asked.Subcommand.TheVariants.{Why, Locks, Waits, Graph, Timeline, Query}
use Rattle.mdlview.proofs.FoundOptions.{finds, server_found}
use Rattle.mdlview.proofs.Options.{options, rules}
use Rattle.mdlview.proofs.OptionsGiven.{Fits, LineReads, Raw, options_given}
use Rattle.mdlview.proofs.OptionsTaken.{options_taken}
use Rattle.mdlview.proofs.Subcommands.{AreTaken, subcommand_is, top, names as top_names}

-- the number of a line's text
number_of : (at : Option Text) → Fits at → (line : Option ℕ) × LineReads at line
number_of None fits = (None, refl)
number_of (Some t) fits =
    let n = digits_value 10 (without_leading_plus t) in
    (Some n, (n, refl, (fits, refl)))

-- a subcommand asks for this by what was found
abbrev pub AsksByFound : Subcommand → ArgMatches → Asked → Type 0
AsksByFound named m asked = (options : Options) × HasServer m options × ((found : Options) → HasOptions m found → options ≡ found) × (asked_by named options ≡ Some asked)

-- words that are not refused ask for it
pub asks_by : (named : Subcommand) (words : List Text) (m : ArgMatches) (asked : Asked) → AreUsed options words → rows_of (found_of m) ≡ rows_after rules [] words
    → AsksByFound named m asked → AskBy named words asked
asks_by named words m asked (uses, front, end, after, is, are, ends, finds_after) rows (options, server, only, by) =
    let (raw, shows, fits, give) = options_given uses front after are in
    let all = rows ∙ ap (λ rows. fold with_default rows rules) finds_after in
    let (line, reads_line) = number_of raw.at fits in
    let says : Options = record { is_script = raw.script; is_json = raw.json; last = line; server = options.server; is_html = raw.html } in
    let named_server = sym (server_found m after raw all shows) ∙ server in
    let same = only says (finds m after raw says all shows (refl, refl, reads_line, named_server, refl)) in
    let (given, gives) = give says (refl, refl, reads_line, named_server, refl) in
    (given, says, front, end, is, gives, ends, ap (asked_by named) (sym same) ∙ by)

-- words that ask for it are taken, and the options are found
pub taken_by : (named : Subcommand) (words : List Text) (asked : Asked) → AskBy named words asked
    → AreTaken words
    × ((m : ArgMatches) → rows_of (found_of m) ≡ rows_after rules [] words → (options : Options) × HasOptions m options × (asked_by named options ≡ Some asked))
taken_by named words asked (given, options, front, end, is, gives, ends, by) =
    let (passes, (rows, (raw, shows, reads), founds)) = options_taken given front end options gives ends in (
      subst AreTaken (sym is) passes,
      λ m all. (options, finds m rows raw options (all ∙ ap (rows_after rules []) is ∙ founds) shows reads, by),
    )

-- ---- whether words begin with an option

begin_by : (one : Given) (first rest : List Text) → GiveOption one first → begins_with_option (first ++ rest) ≡ true
begin_by script_given first rest is = ap (λ xs. begins_with_option (xs ++ rest)) is
begin_by json_given first rest is = ap (λ xs. begins_with_option (xs ++ rest)) is
begin_by html_given first rest is = ap (λ xs. begins_with_option (xs ++ rest)) is
begin_by (line_given n) first rest (t, writes, inl is) = ap (λ xs. begins_with_option (xs ++ rest)) is
begin_by (line_given n) first rest (t, writes, inr (is, minus)) = ap (λ xs. begins_with_option (xs ++ rest)) is
begin_by (ServerOf s) first rest (inl is) = ap (λ xs. begins_with_option (xs ++ rest)) is
begin_by (ServerOf s) first rest (inr (is, minus)) = ap (λ xs. begins_with_option (xs ++ rest)) is

begin_with : (given : List Given) (front end : List Text) (old new : Options) → GiveOptions given front old new → CloseOptions end → begins_with_option (front ++ end) ≡ true
begin_with [] front end old new (none, same) (inl closed) = ap₂ (λ xs ys. begins_with_option (xs ++ ys)) none closed
begin_with [] front end old new (none, same) (inr closed) = ap₂ (λ xs ys. begins_with_option (xs ++ ys)) none closed
begin_with (one ∷ more) front end old new (first, rest, now, is, gives, adds, others) ends =
    ap (λ xs. begins_with_option (xs ++ end)) is ∙ ap begins_with_option (append_assoc first rest end) ∙ begin_by one first (rest ++ end) gives

-- words of a subcommand's options begin with one, and its name is none
pub begins : (named : Subcommand) (words : List Text) (asked : Asked) → AskBy named words asked → begins_with_option words ≡ true
begins named words asked (given, options, front, end, is, gives, ends, by) = ap begins_with_option is ∙ begin_with given front end no_options options gives ends

pub is_name : (named : Subcommand) → is_option (subcommand_name named) ≡ false
is_name Why = refl
is_name Locks = refl
is_name Waits = refl
is_name Graph = refl
is_name Timeline = refl
is_name Query = refl

-- the words of a name, if there is one
pub named_by : (named : Subcommand) (name : List Text) → NameSubcommand named name → ((name ≡ []) × (named ≡ Why)) ⊎ (name ≡ subcommand_name named ∷ [])
named_by Why name (inl none) = inl (none, refl)
named_by Why name (inr is) = inr is
named_by Locks name is = inr is
named_by Waits name is = inr is
named_by Graph name is = inr is
named_by Timeline name is = inr is
named_by Query name is = inr is

pub names : (named : Subcommand) → NameSubcommand named (subcommand_name named ∷ [])
names Why = inr refl
names Locks = refl
names Waits = refl
names Graph = refl
names Timeline = refl
names Query = refl

-- ---- what clap's matches have

-- `?` passes an error up as it is
pub passed_on : {T E : Type 0} (r : Result T E) (e : E) (P : T → Type 0) (Q : E → Type 0) → IsErrAnd r (λ y. y ≡ e) → Q e → MatchResult r P Q
passed_on (Ok x) e P Q is q = absurd is
passed_on (Err y) e P Q is q = subst Q (sym is) q

pub answered : {T E : Type 0} (r : Result T E) (x : T) (Q : E → Type 0) → r ≡ Ok x → MatchResult r (λ found. found ≡ x) Q
answered r x Q is = subst (λ r. MatchResult r (λ found. found ≡ x) Q) (sym is) refl

module _ (named : Subcommand) (rest words : List Text) (m : ArgMatches) where
  entered_is : drop 1 words ≡ subcommand_name named ∷ rest → subcommand_rows_of m ≡ subcommand_of mdlview words → subcommand_rows_of m ≡ Some (subcommand_name named, rows_after rules [] rest)
  entered_is is entered = entered ∙ ap (λ xs. Rattle.clap.specs.Simple.entered (built mdlview) (stop_after top.rules top_names xs)) is ∙ subcommand_is named rest

  -- the name that was found, and what was found of its options
  pub named_found : (name : Text) → drop 1 words ≡ subcommand_name named ∷ rest → subcommand_rows_of m ≡ subcommand_of mdlview words → Some name ≡ subcommand_name_of m → name ≡ subcommand_name named
  named_found name is entered found =
      ap (λ o. unwrap_or o name) (found ∙ name_kept (out-ArgMatches m).subcommand ∙ ap (option_map (λ (p : Text × List Row). p.0)) (entered_is is entered))

  pub rows_found : (options : ArgMatches) → drop 1 words ≡ subcommand_name named ∷ rest → subcommand_rows_of m ≡ subcommand_of mdlview words
      → Some (rows_of (found_of options)) ≡ option_map (λ (p : Text × List Row). p.1) (subcommand_rows (out-ArgMatches m).subcommand) → rows_of (found_of options) ≡ rows_after rules [] rest
  rows_found options is entered found =
      ap (λ o. unwrap_or o (rows_of (found_of options))) (found ∙ ap (option_map (λ (p : Text × List Row). p.1)) (entered_is is entered))

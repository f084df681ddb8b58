-- What the words of a command line ask for.
use Rattle.std.specs.Prelude.{◌≡◌, ◌⊎◌, ◌++◌, ◌==◌, ◌&&◌, ℕ, Bool, false, not, pos, List, [], ◌∷◌, Option, Some, None, codes, flat_map, true, if◌then◌else◌}
use Rattle.std.specs.Str.{bytes_eq}
use Rattle.std.specs.Str.Parse.{signed_digits_value}
use Rattle.clap.specs.Lexer.{without_minus}
use Rattle.clap.specs.Matches.{found_of, one_text}
use Rattle.clap.specs.Values.{IsSignedIn}
use Rattle.clap.specs.Walk.{Rule}
use Rattle.clap.specs.Simple.{App, new_app, new_shape, on_top, subcommand_of, subcommand_rows_of, with_rule, with_subcommand}
use Rattle.clap.specs.declared.builder.value_parser.ValueParser.TheVariants.{Signed}
use Rattle.clap.specs.declared.parser.matches.ArgMatches.{ArgMatches}
use Rattle.mdl_defs.specs.Caches.{most_kept}
use Rattle.mdl_key.specs.declared.namespace.Kind.TheVariants.{Scoped, Object}
use Rattle.mdl_program.specs.declared.program.Run.{Run}
use Rattle.mdl_program.specs.declared.program.Run.TheVariants.{Lock, Matrix, Replay, Explain, Threads}
use Rattle.mdl_words.specs.Words.{GiveText, flag_rule, value_rule}

-- an option of `run` with a number: its name, the least number and the most, and the text of the number if none is given
pub record NumberOption : Type 0 where
  pub name : List ℕ
  pub least : ℕ
  pub most : ℕ
  pub default : List ℕ

-- how often a waiting statement looks again before it times out, a number of 32 bits
abbrev pub patience_option : NumberOption
patience_option = record { name = codes "patience"; least = 0; most = 4294967295; default = codes "1000000" }

-- how many definitions each session keeps in a cache
abbrev pub cache_option : NumberOption
cache_option = record { name = codes "cache"; least = 1; most = most_kept; default = codes "64" }

module _ (option : NumberOption) where
  -- the text writes this number within the option's limits, in decimal digits, perhaps after a sign. After a `-` there are only
  -- zeros
  abbrev pub WritesNumber : List ℕ → ℕ → Type 0
  WritesNumber text number = IsSignedIn (pos option.least) (pos option.most) text × (signed_digits_value 10 text ≡ pos number)

  -- the words that ask for this number: they give its text, or there are none, and its text is the default
  abbrev pub AskForNumber : ℕ → List (List ℕ) → Type 0
  AskForNumber number words = (text : List ℕ) × WritesNumber text number × (GiveText option.name text words ⊎ ((words ≡ []) × (text ≡ option.default)))

-- the words after `run` that ask for this patience and this cache, in either order
abbrev pub AskForThreads : ℕ → ℕ → List (List ℕ) → Type 0
AskForThreads patience cache words = (first next : List (List ℕ)) × AskForNumber patience_option patience first × AskForNumber cache_option cache next
    × ((words ≡ first ++ next) ⊎ (words ≡ next ++ first))

-- the words of a run, after the program's name
abbrev pub AreWordsOf : Run → List (List ℕ) → Type 0
AreWordsOf (Lock Object) words = words ≡ codes "lock" ∷ []
AreWordsOf (Lock Scoped) words = words ≡ codes "lock" ∷ codes "--scoped" ∷ []
AreWordsOf Matrix words = words ≡ codes "matrix" ∷ []
AreWordsOf Replay words = words ≡ codes "replay" ∷ []
AreWordsOf Explain words = words ≡ codes "explain" ∷ []
AreWordsOf (Threads patience cache) words = (options : List (List ℕ)) × (words ≡ codes "run" ∷ options) × AskForThreads patience cache options

-- the words after the program's name ask for this run. A closing `--` says only that the options end
abbrev pub Asks : List (List ℕ) → Run → Type 0
Asks words run = AreWordsOf run words
    ⊎ ((front : List (List ℕ)) × (words ≡ front ++ codes "--" ∷ []) × AreWordsOf run front)

-- whether a word begins as an option does
abbrev pub begins_with_dash : List ℕ → Bool
begins_with_dash [] = false
begins_with_dash (byte ∷ bytes) = byte == 45

-- whether words begin a line to explain: there is one, and it doesn't begin as an option does
abbrev pub begins_line : List (List ℕ) → Bool
begins_line [] = false
begins_line (first ∷ rest) = not (begins_with_dash first)

-- the words of a line to explain, if the words after the program's name have them: those behind `explain`
abbrev pub line_to_explain : List (List ℕ) → Option (List (List ℕ))
line_to_explain [] = None
line_to_explain (command ∷ line) = if bytes_eq command (codes "explain") && begins_line line then Some line else None

-- the text of such a line: its words, a blank behind each
abbrev pub line_text : List (List ℕ) → List ℕ
line_text words = flat_map (λ word. word ++ codes " ") words

-- the words after the program's name ask for its version
abbrev pub AskForVersion : List (List ℕ) → Type 0
AskForVersion words = words ≡ codes "--version" ∷ []

-- the line that is printed for the version
abbrev pub version_line : List ℕ
version_line = codes "mdlsim 0.6.0" ++ 10 ∷ []

-- what a parse reads of the flag `--scoped`, and of `lock`, which has it
abbrev pub scoped_flag : Rule
scoped_flag = flag_rule (codes "scoped")

abbrev pub lock_subcommand : App
lock_subcommand = with_rule (new_app (codes "lock")) scoped_flag

-- what a parse reads of an option with a number, and of `run`, which has two
abbrev pub number_rule : NumberOption → Rule
number_rule option = value_rule option.name (Some (Signed (pos option.least) (pos option.most))) (option.default ∷ [])

abbrev pub run_subcommand : App
run_subcommand = with_rule (with_rule (new_app (codes "run")) (number_rule patience_option)) (number_rule cache_option)

-- the program without its subcommands, one of which is required
abbrev pub without_subcommands : App
without_subcommands = on_top (λ s. record s { subcommand_required = true }) (new_app (codes "mdlsim"))

-- the program with the subcommand `lock`, and with `matrix`, `replay` and `explain`, which have no options
abbrev pub with_scripts : App
with_scripts =
    with_subcommand (with_subcommand (with_subcommand (with_subcommand without_subcommands lock_subcommand.top) (new_shape (codes "matrix"))) (new_shape (codes "replay")))
    (new_shape (codes "explain"))

-- what a parse reads of the program
abbrev pub mdlsim : App
mdlsim = with_subcommand with_scripts run_subcommand.top

-- the matches of words that ask for this run
abbrev pub Finds : Run → ArgMatches → Type 0
Finds run matches = (words : List (List ℕ)) × Asks words run × (subcommand_rows_of matches ≡ subcommand_of mdlsim (codes "mdlsim" ∷ words))

-- the number that was found for an option of `run`. Of a text that begins with `-`, what follows the sign is found
abbrev pub HasNumber : NumberOption → ArgMatches → ℕ → Type 0
HasNumber option matches number = (text : List ℕ) × WritesNumber option text number × (one_text (found_of matches) option.name ≡ Some (without_minus text))

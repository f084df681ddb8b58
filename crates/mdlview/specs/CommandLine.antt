-- What the words of a command line ask for.
use Rattle.std.specs.Prelude.{◌≡◌, ◌⊎◌, ◌++◌, ◌==◌, ◌&&◌, not, ℕ, Bool, true, false, List, [], ◌∷◌, Option, Some, None, codes, unwrap_or, is_some, option_map, if◌then◌else◌}
use Rattle.std.specs.Str.Parse.{digits_value, without_leading_plus}
use Rattle.clap.specs.Matches.{first_value, found_of, one_text}
use Rattle.clap.specs.Values.{IsUnsignedIn}
use Rattle.clap.specs.Walk.{Rule}
use Rattle.clap.specs.Simple.{App, Shape, new_app, on_top, with_rule, with_subcommand}
use Rattle.clap.specs.declared.builder.value_parser.ValueParser.TheVariants.{Unsigned}
use Rattle.clap.specs.declared.parser.matches.ArgMatches.{ArgMatches}
use Rattle.mdl_view_program.specs.declared.question.Form.{Form}
use Rattle.mdl_view_program.specs.declared.question.Form.TheVariants as form
use Rattle.mdl_view_program.specs.declared.question.Question.{Question}
use Rattle.mdl_view_program.specs.declared.question.Question.TheVariants as question
use Rattle.mdl_words.specs.Words.{CloseOptions, GiveText, flag_rule, value_rule}
use Rattle.mdlview.specs.declared.asked.Asked.{Asked}
use Rattle.mdlview.specs.declared.asked.Asked.TheVariants.{OfRows, OfScript, Query}
use Rattle.mdlview.specs.declared.asked.Look.{Look}
use Rattle.mdlview.specs.declared.asked.Look.TheVariants as look
use Rattle.mdlview.specs.declared.asked.Options.{Options}
use Rattle.mdlview.specs.declared.asked.Server.{Server}
use Rattle.mdlview.specs.declared.asked.Server.TheVariants.{MySql, MariaDb}
use Rattle.mdlview.specs.declared.asked.Subcommand.{Subcommand}
use Rattle.mdlview.specs.declared.asked.Subcommand.TheVariants as subcommand

-- ---- subcommands and options

-- a subcommand's name
abbrev pub subcommand_name : Subcommand → List ℕ
subcommand_name subcommand.Why = codes "why"
subcommand_name subcommand.Locks = codes "locks"
subcommand_name subcommand.Waits = codes "waits"
subcommand_name subcommand.Graph = codes "graph"
subcommand_name subcommand.Timeline = codes "timeline"
subcommand_name subcommand.Query = codes "query"

-- the name of a kind of server
abbrev pub server_name : Server → List ℕ
server_name MySql = codes "mysql"
server_name MariaDb = codes "mariadb"

-- the line that is meant if none is given: no script has more lines
abbrev pub last_line : ℕ
last_line = 18446744073709551615

-- ---- what is asked for

-- the form of an answer
abbrev pub form_of : Bool → Form
form_of true = form.Json
form_of false = form.Text

-- a question about the locks that a script leaves, or, without `--script`, about those of rows. Rows show one moment, so they have no line. A page
-- is of a timeline alone
abbrev pub question_asked : Question → Options → Option Asked
question_asked question options =
    if is_some options.server then None else (if options.is_html then None
    else (if options.is_script then Some (OfScript (look.Locks question) (unwrap_or options.last last_line))
    else (if is_some options.last then None else Some (OfRows question))))

-- the form of a timeline
abbrev pub timeline_form : Bool → Look
timeline_form true = look.Page
timeline_form false = look.Timeline

-- what a subcommand asks for with these options, if it takes them. A graph has one form, a timeline isn't JSON, and rows have no timeline
abbrev pub asked_by : Subcommand → Options → Option Asked
asked_by subcommand.Why options = question_asked (question.Why (form_of options.is_json)) options
asked_by subcommand.Locks options = question_asked (question.Locks (form_of options.is_json)) options
asked_by subcommand.Waits options = question_asked (question.Waits (form_of options.is_json)) options
asked_by subcommand.Graph options = if options.is_json then None else question_asked question.Graph options
asked_by subcommand.Timeline options =
    if options.is_json then None else (if is_some options.server then None
    else (if options.is_script then Some (OfScript (timeline_form options.is_html) (unwrap_or options.last last_line)) else None))
asked_by subcommand.Query options =
    if options.is_json then None else (if options.is_script then None
    else (if is_some options.last then None else (if options.is_html then None else Some (Query (unwrap_or options.server MySql)))))

-- ---- the words of options

-- an option that is given, with what it says: the number of a line, or a kind of server
pub data Given : Type 0 where
  Script : Given
  Json : Given
  At : ℕ → Given
  ServerOf : Server → Given
  Html : Given

-- the text writes the number of a line, from 1 to the last, in decimal digits, perhaps after a `+`
abbrev pub WritesLine : List ℕ → ℕ → Type 0
WritesLine text line = IsUnsignedIn 1 last_line text × (digits_value 10 (without_leading_plus text) ≡ line)

-- the word begins as an option does, and not with `--he`, as `--help` does, which asks for the program's help
abbrev pub is_option : List ℕ → Bool
is_option [] = false
is_option (first ∷ []) = false
is_option (first ∷ next ∷ []) = (first == 45) && (next == 45)
is_option (first ∷ next ∷ third ∷ []) = (first == 45) && (next == 45)
is_option (first ∷ next ∷ third ∷ fourth ∷ rest) = (first == 45) && ((next == 45) && not ((third == 104) && (fourth == 101)))

-- the words have no subcommand
abbrev pub begins_with_option : List (List ℕ) → Bool
begins_with_option [] = true
begins_with_option (word ∷ rest) = is_option word

-- the words of one option
abbrev pub GiveOption : Given → List (List ℕ) → Type 0
GiveOption Script words = words ≡ codes "--script" ∷ []
GiveOption Json words = words ≡ codes "--json" ∷ []
GiveOption (At line) words = (text : List ℕ) × WritesLine text line × GiveText (codes "at") text words
GiveOption (ServerOf server) words = GiveText (codes "server") (server_name server) words
GiveOption Html words = words ≡ codes "--html" ∷ []

-- no option
abbrev pub no_options : Options
no_options = record { is_script = false; is_json = false; last = None; server = None; is_html = false }

-- options with one more, which wasn't given before
abbrev pub Adds : Given → Options → Options → Type 0
Adds Script old new = (old.is_script ≡ false) × (new ≡ record old { is_script = true })
Adds Json old new = (old.is_json ≡ false) × (new ≡ record old { is_json = true })
Adds (At line) old new = (old.last ≡ None) × (new ≡ record old { last = Some line })
Adds (ServerOf server) old new = (old.server ≡ None) × (new ≡ record old { server = Some server })
Adds Html old new = (old.is_html ≡ false) × (new ≡ record old { is_html = true })

-- the words give these options in turn, behind old ones
abbrev pub GiveOptions : List Given → List (List ℕ) → Options → Options → Type 0
GiveOptions [] words old new = (words ≡ []) × (new ≡ old)
GiveOptions (given ∷ more) words old new = (first rest : List (List ℕ)) × (now : Options) × (words ≡ first ++ rest)
    × GiveOption given first × Adds given old now × GiveOptions more rest now new

-- the words name this subcommand. Without a name it is `why`
abbrev pub NameSubcommand : Subcommand → List (List ℕ) → Type 0
NameSubcommand subcommand.Why words = (words ≡ []) ⊎ (words ≡ codes "why" ∷ [])
NameSubcommand named words = words ≡ subcommand_name named ∷ []

-- the words behind a subcommand's name ask for this: options that it takes, each given once, in any order
abbrev pub AskBy : Subcommand → List (List ℕ) → Asked → Type 0
AskBy named words asked = (given : List Given) × (options : Options) × (front end : List (List ℕ)) × (words ≡ front ++ end)
    × GiveOptions given front no_options options × CloseOptions end × (asked_by named options ≡ Some asked)

-- the words after the program's name ask for this
abbrev pub Asks : List (List ℕ) → Asked → Type 0
Asks words asked = (named : Subcommand) × (name rest : List (List ℕ)) × (words ≡ name ++ rest) × NameSubcommand named name × AskBy named rest asked

-- the words after the program's name ask for its version
abbrev pub AskForVersion : List (List ℕ) → Type 0
AskForVersion words = words ≡ codes "--version" ∷ []

-- the line that is printed for the version
abbrev pub version_line : List ℕ
version_line = codes "mdlview 0.6.0" ++ 10 ∷ []

-- ---- what a parse reads

-- the options
abbrev pub script_rule : Rule
script_rule = flag_rule (codes "script")

abbrev pub at_rule : Rule
at_rule = value_rule (codes "at") (Some (Unsigned 1 last_line)) []

abbrev pub json_rule : Rule
json_rule = flag_rule (codes "json")

abbrev pub server_rule : Rule
server_rule = value_rule (codes "server") None []

abbrev pub html_rule : Rule
html_rule = flag_rule (codes "html")

-- a command with all options
abbrev pub with_options : App → App
with_options app = with_rule (with_rule (with_rule (with_rule (with_rule app script_rule) at_rule) json_rule) server_rule) html_rule

-- the program without a subcommand, whose options are those of `why`
abbrev pub why_alone : App
why_alone = with_options (new_app (codes "mdlview"))

-- a subcommand, and the program with all of them
abbrev pub subcommand_shape : Subcommand → Shape
subcommand_shape named = (with_options (new_app (subcommand_name named))).top

abbrev pub without_subcommands : App
without_subcommands = on_top (λ s. record s { subcommand_required = true }) (new_app (codes "mdlview"))

abbrev pub with_locks : App
with_locks = with_subcommand (with_subcommand (with_subcommand without_subcommands (subcommand_shape subcommand.Why)) (subcommand_shape subcommand.Locks))
    (subcommand_shape subcommand.Waits)

abbrev pub mdlview : App
mdlview = with_subcommand (with_subcommand (with_subcommand with_locks (subcommand_shape subcommand.Graph)) (subcommand_shape subcommand.Timeline))
    (subcommand_shape subcommand.Query)

-- what is found of a flag
abbrev pub flag_word : Bool → List ℕ
flag_word true = codes "true"
flag_word false = codes "false"

-- the text that is found of a line's option has its number
abbrev pub HasLine : Option (List ℕ) → Option ℕ → Type 0
HasLine found None = found ≡ None
HasLine found (Some line) = (text : List ℕ) × (found ≡ Some text) × WritesLine text line

-- the server's name that was found
abbrev pub HasServer : ArgMatches → Options → Type 0
HasServer matches options = first_value (found_of matches) (codes "server") ≡ option_map server_name options.server

-- the options that were found
abbrev pub HasOptions : ArgMatches → Options → Type 0
HasOptions matches options = (one_text (found_of matches) (codes "script") ≡ Some (flag_word options.is_script))
    × (one_text (found_of matches) (codes "json") ≡ Some (flag_word options.is_json))
    × HasLine (one_text (found_of matches) (codes "at")) options.last
    × HasServer matches options
    × (one_text (found_of matches) (codes "html") ≡ Some (flag_word options.is_html))

-- Which options words give, from the uses that a parse makes of them.
use Rattle.std.proofs.Common.{◌≡◌, ◌∙◌, ◌||◌, ◌&&◌, ◌==◌, ◌<◌, arith, inl, inr, ap, ap₂, refl, sym, subst, codes, true, false, Bool, ℕ, List, [], ◌∷◌, ◌++◌, Option, Some, None, option_map, true≢false, append-nil, if◌then◌else◌}
use Rattle.std.specs.Str.Parse.{IsNumeral, digits_value, starts_with_minus, without_leading_plus}
use Rattle.std.specs.Char.{digit_value}
use Rattle.std.proofs.lemmas.Bool.Decides.{Decides-eqb}
use Rattle.clap.specs.Kinds.{Kinds, or_else, value_kinds}
use Rattle.clap.specs.ValueTests.{accepts}
use Rattle.clap.specs.Values.{IsUnsignedIn}
use Rattle.clap.specs.Walk.{Row, Text, has_row, more_values, with_values, without}
use Rattle.clap.specs.declared.builder.value_parser.Reading.{Reading}
use Rattle.clap.specs.declared.builder.value_parser.Reading.TheVariants.{AsWritten}
use Rattle.clap.specs.declared.builder.value_parser.ValueParser.TheVariants.{Unsigned}
use Rattle.clap.specs.declared.error.kind.ErrorKind.TheVariants as kind
use Rattle.clap.specs.declared.parser.matches.ValueSource.TheVariants.{CommandLine}
use Rattle.clap.proofs.ValueTestLemmas.{accepts-Accepts}
use Rattle.mdl_words.specs.Words.{GiveText}
use Rattle.mdl_words.proofs.OptionWords.{AreUses, Spells, Use, fault_used, rows_used}
use Rattle.mdl_words.proofs.ShortOptions.{refuses}
use Rattle.mdlview.specs.CommandLine.{Adds, GiveOption, GiveOptions, Given, WritesLine, last_line, no_options, server_name}
use Rattle.mdlview.specs.CommandLine.Given.{Script as script_given, Json as json_given, At as line_given, ServerOf, Html as html_given}
use Rattle.mdlview.specs.declared.asked.Options.{Options}
use Rattle.mdlview.specs.declared.asked.Server.{Server}
use Rattle.mdlview.specs.declared.asked.Server.TheVariants.{MySql, MariaDb}
use Rattle.mdlview.proofs.FoundRows.{Has, at_fresh, has_kept, has_new}
use Rattle.mdlview.proofs.Options.{Flag, Valued, options}
use Rattle.mdlview.proofs.Options.Flag.{Script, Json, Html}
use Rattle.mdlview.proofs.Options.Valued.{At, ServerName}

-- ---- options by their texts

pub record Raw : Type 0 where
  pub script : Bool
  pub json : Bool
  pub at : Option Text
  pub server : Option Text
  pub html : Bool

abbrev pub nothing_given : Raw
nothing_given = record { script = false; json = false; at = None; server = None; html = false }

-- what is found of a flag
abbrev pub flag_text : Bool → Option Text
flag_text true = Some (codes "true")
flag_text false = None

-- the rows have what was given
abbrev pub Shows : List Row → Raw → Type 0
Shows rows raw = Has (codes "script") rows (flag_text raw.script) × Has (codes "json") rows (flag_text raw.json) × Has (codes "at") rows raw.at
    × Has (codes "server") rows raw.server × Has (codes "html") rows (flag_text raw.html)

-- the text of a line's number is one
abbrev pub Fits : Option Text → Type 0
Fits None = Unit {0}
Fits (Some t) = IsUnsignedIn 1 last_line t

pub nothing_shown : Shows [] nothing_given
nothing_shown = (refl, refl, refl, refl, refl)

-- one more use, of what wasn't given before
abbrev pub AddsUse : Use options → Raw → Raw → Type 0
AddsUse (inl Script) old new = (old.script ≡ false) × (new ≡ record old { script = true })
AddsUse (inl Json) old new = (old.json ≡ false) × (new ≡ record old { json = true })
AddsUse (inl Html) old new = (old.html ≡ false) × (new ≡ record old { html = true })
AddsUse (inr (At, t)) old new = (old.at ≡ None) × (new ≡ record old { at = Some t }) × IsUnsignedIn 1 last_line t
AddsUse (inr (ServerName, t)) old new = (old.server ≡ None) × (new ≡ record old { server = Some t })

-- ---- what a use leaves in the rows

pub used_fresh : (id : Text) (how : Reading) (values : List Text) (rows : List Row) → has_row id rows ≡ false
    → with_values id how CommandLine values (without id rows)
    ≡ rows ++ record { id = id; values = values; count = None; source = Some CommandLine; reading = how } ∷ []
used_fresh id how values rows fresh =
    ap (with_values id how CommandLine values) (at_fresh id (λ _. []) [] rows fresh ∙ append-nil rows)
    ∙ at_fresh id (more_values CommandLine values) _ rows fresh

-- what is absent was not given
pub absent : (id : Text) (rows : List Row) (o : Option Text) → Has id rows o → has_row id rows ≡ false → o ≡ None
absent id rows None has fresh = refl
absent id rows (Some t) has fresh = absurd (true≢false (sym has.0 ∙ fresh))

pub no_flag : (b : Bool) → flag_text b ≡ None → b ≡ false
no_flag true e = absurd (cc)
no_flag false e = refl

-- a row that is added, with what the others show
module _ (rows : List Row) (raw : Raw) (shows : Shows rows raw) where
  pub script_shown : raw.script ≡ false → Shows (rows_used options (inl Script) rows) (record raw { script = true })
  script_shown none =
      let fresh : has_row (codes "script") rows ≡ false = subst (λ b. Has (codes "script") rows (flag_text b)) none shows.0 in
      subst (λ rows. Shows rows (record raw { script = true })) (sym (used_fresh (codes "script") AsWritten (codes "true" ∷ []) rows fresh)) (
        has_new (codes "script") rows _ (codes "true") refl refl refl fresh,
        has_kept (codes "json") rows _ _ refl shows.1,
        has_kept (codes "at") rows _ _ refl shows.2,
        has_kept (codes "server") rows _ _ refl shows.3,
        has_kept (codes "html") rows _ _ refl shows.4,
      )

  pub json_shown : raw.json ≡ false → Shows (rows_used options (inl Json) rows) (record raw { json = true })
  json_shown none =
      let fresh : has_row (codes "json") rows ≡ false = subst (λ b. Has (codes "json") rows (flag_text b)) none shows.1 in
      subst (λ rows. Shows rows (record raw { json = true })) (sym (used_fresh (codes "json") AsWritten (codes "true" ∷ []) rows fresh)) (
        has_kept (codes "script") rows _ _ refl shows.0,
        has_new (codes "json") rows _ (codes "true") refl refl refl fresh,
        has_kept (codes "at") rows _ _ refl shows.2,
        has_kept (codes "server") rows _ _ refl shows.3,
        has_kept (codes "html") rows _ _ refl shows.4,
      )

  pub html_shown : raw.html ≡ false → Shows (rows_used options (inl Html) rows) (record raw { html = true })
  html_shown none =
      let fresh : has_row (codes "html") rows ≡ false = subst (λ b. Has (codes "html") rows (flag_text b)) none shows.4 in
      subst (λ rows. Shows rows (record raw { html = true })) (sym (used_fresh (codes "html") AsWritten (codes "true" ∷ []) rows fresh)) (
        has_kept (codes "script") rows _ _ refl shows.0,
        has_kept (codes "json") rows _ _ refl shows.1,
        has_kept (codes "at") rows _ _ refl shows.2,
        has_kept (codes "server") rows _ _ refl shows.3,
        has_new (codes "html") rows _ (codes "true") refl refl refl fresh,
      )

  pub at_shown : (t : Text) → raw.at ≡ None → Shows (rows_used options (inr (At, t)) rows) (record raw { at = Some t })
  at_shown t none =
      let fresh : has_row (codes "at") rows ≡ false = subst (Has (codes "at") rows) none shows.2 in
      subst (λ rows. Shows rows (record raw { at = Some t })) (sym (used_fresh (codes "at") AsWritten (t ∷ []) rows fresh)) (
        has_kept (codes "script") rows _ _ refl shows.0,
        has_kept (codes "json") rows _ _ refl shows.1,
        has_new (codes "at") rows _ t refl refl refl fresh,
        has_kept (codes "server") rows _ _ refl shows.3,
        has_kept (codes "html") rows _ _ refl shows.4,
      )

  pub server_shown : (t : Text) → raw.server ≡ None → Shows (rows_used options (inr (ServerName, t)) rows) (record raw { server = Some t })
  server_shown t none =
      let fresh : has_row (codes "server") rows ≡ false = subst (Has (codes "server") rows) none shows.3 in
      subst (λ rows. Shows rows (record raw { server = Some t })) (sym (used_fresh (codes "server") AsWritten (t ∷ []) rows fresh)) (
        has_kept (codes "script") rows _ _ refl shows.0,
        has_kept (codes "json") rows _ _ refl shows.1,
        has_kept (codes "at") rows _ _ refl shows.2,
        has_new (codes "server") rows _ t refl refl refl fresh,
        has_kept (codes "html") rows _ _ refl shows.4,
      )

-- ---- uses that are not refused

once : (b : Bool) (next : Kinds) → or_else (if b && true then kind.ArgumentConflict ∷ [] else []) next ≡ [] → (b ≡ false) × (next ≡ [])
once true next e = absurd (refuses _ _ e)
once false next e = (refl, e)

line_accepted : (t : Text) → or_else (value_kinds false (Unsigned 1 last_line) t) [] ≡ [] → IsUnsignedIn 1 last_line t
line_accepted t e = accepts-Accepts false (Unsigned 1 last_line) t (go (accepts false (Unsigned 1 last_line) t) e)
  where
    go : (b : Bool) → or_else (if b then [] else kind.ValueValidation ∷ []) [] ≡ [] → b ≡ true
    go true e = refl
    go false e = absurd (refuses _ _ e)

use_shown : (u : Use options) (rows : List Row) (raw : Raw) → Shows rows raw → fault_used options u rows ≡ [] → (now : Raw) × AddsUse u raw now × Shows (rows_used options u rows) now
use_shown (inl Script) rows raw shows e =
    let none = no_flag raw.script (absent (codes "script") rows _ shows.0 (once (has_row (codes "script") rows) _ e).0) in
    (record raw { script = true }, (none, refl), script_shown rows raw shows none)
use_shown (inl Json) rows raw shows e =
    let none = no_flag raw.json (absent (codes "json") rows _ shows.1 (once (has_row (codes "json") rows) _ e).0) in
    (record raw { json = true }, (none, refl), json_shown rows raw shows none)
use_shown (inl Html) rows raw shows e =
    let none = no_flag raw.html (absent (codes "html") rows _ shows.4 (once (has_row (codes "html") rows) _ e).0) in
    (record raw { html = true }, (none, refl), html_shown rows raw shows none)
use_shown (inr (At, t)) rows raw shows e =
    let free = once (has_row (codes "at") rows) _ e in
    let none = absent (codes "at") rows _ shows.2 free.0 in
    (record raw { at = Some t }, (none, refl, line_accepted t free.1), at_shown rows raw shows t none)
use_shown (inr (ServerName, t)) rows raw shows e =
    let none = absent (codes "server") rows _ shows.3 (once (has_row (codes "server") rows) _ e).0 in
    (record raw { server = Some t }, (none, refl), server_shown rows raw shows t none)

-- the words are those of these uses in turn, and give this
abbrev GiveUses : List (Use options) → List Text → Raw → Raw → Type 0
GiveUses [] words old new = (words ≡ []) × (new ≡ old)
GiveUses (u ∷ more) words old new = (first rest : List Text) × (now : Raw) × (words ≡ first ++ rest) × Spells options u first × AddsUse u old now × GiveUses more rest now new

use_fits : (u : Use options) (old new : Raw) → AddsUse u old new → Fits old.at → Fits new.at
use_fits (inl Script) old new (none, is) fits = subst (λ (r : Raw). Fits r.at) (sym is) fits
use_fits (inl Json) old new (none, is) fits = subst (λ (r : Raw). Fits r.at) (sym is) fits
use_fits (inl Html) old new (none, is) fits = subst (λ (r : Raw). Fits r.at) (sym is) fits
use_fits (inr (At, t)) old new (none, is, now) fits = subst (λ (r : Raw). Fits r.at) (sym is) now
use_fits (inr (ServerName, t)) old new (none, is) fits = subst (λ (r : Raw). Fits r.at) (sym is) fits

uses_shown : (uses : List (Use options)) (words : List Text) (rows after : List Row) (raw : Raw) → AreUses options uses words rows after → Shows rows raw → Fits raw.at
    → (new : Raw) × GiveUses uses words raw new × Shows after new × Fits new.at
uses_shown [] words rows after raw are shows fits = (raw, (are.0, refl), subst (λ rows. Shows rows raw) (sym are.1) shows, fits)
uses_shown (u ∷ more) words rows after raw (first, rest, is, spells, free, are) shows fits =
    let (now, adds, shown) = use_shown u rows raw shows free in
    let (new, gives, all, fit) = uses_shown more rest (rows_used options u rows) after now are shown (use_fits u raw now adds fits) in
    (new, (first, rest, now, is, spells, adds, gives), all, fit)

-- ---- options that say the same

abbrev pub LineReads : Option Text → Option ℕ → Type 0
LineReads None line = line ≡ None
LineReads (Some t) line = (n : ℕ) × (line ≡ Some n) × WritesLine t n

-- the options say what the texts say
abbrev pub Reads : Raw → Options → Type 0
Reads raw options = (options.is_script ≡ raw.script) × (options.is_json ≡ raw.json) × LineReads raw.at options.last
    × (raw.server ≡ option_map server_name options.server) × (options.is_html ≡ raw.html)

pub nothing_read : Reads nothing_given no_options
nothing_read = (refl, refl, refl, refl, refl)

-- a number begins with no `-`
pub no_minus : (t : Text) → IsUnsignedIn 1 last_line t → starts_with_minus t ≡ false
no_minus [] is = refl
no_minus (x ∷ xs) is = go (x == 45) refl
  where
    hyphen : IsNumeral 10 (without_leading_plus (45 ∷ xs)) → ⊥
    hyphen numeral = let digit : digit_value 45 < 10 = numeral.1.0 in absurd (omega arith)

    go : (b : Bool) → (x == 45) ≡ b → b ≡ false
    go false e = refl
    go true e = absurd (hyphen (subst (λ y. IsNumeral 10 (without_leading_plus (y ∷ xs))) ((Decides-eqb x 45).0 e) is.0))

server_no_minus : (s : Server) → starts_with_minus (server_name s) ≡ false
server_no_minus MySql = refl
server_no_minus MariaDb = refl

no_server : (s : Option Server) → None ≡ option_map server_name s → s ≡ None
no_server None e = refl
no_server (Some s) e = absurd (cc)

-- the use's option, from what the options say behind it
abbrev Gave : Use options → List Text → Raw → Options → Type 0
Gave u words old after = (before : Options) × Reads old before × (one : Given) × GiveOption one words × Adds one before after

gave : (u : Use options) (words : List Text) (old now : Raw) (after : Options) → Spells options u words → AddsUse u old now → Reads now after → Gave u words old after
gave (inl Script) words old now after spells (none, is) reads = (
  record after { is_script = false },
  (
    sym none,
    reads.1 ∙ ap (λ (r : Raw). r.json) is,
    subst (λ (r : Raw). LineReads r.at after.last) is reads.2,
    sym (ap (λ (r : Raw). r.server) is) ∙ reads.3,
    reads.4 ∙ ap (λ (r : Raw). r.html) is,
  ),
  script_given,
  spells,
  (refl, ap (λ b. record after { is_script = b }) (reads.0 ∙ ap (λ (r : Raw). r.script) is)),
)
gave (inl Json) words old now after spells (none, is) reads = (
  record after { is_json = false },
  (
    reads.0 ∙ ap (λ (r : Raw). r.script) is,
    sym none,
    subst (λ (r : Raw). LineReads r.at after.last) is reads.2,
    sym (ap (λ (r : Raw). r.server) is) ∙ reads.3,
    reads.4 ∙ ap (λ (r : Raw). r.html) is,
  ),
  json_given,
  spells,
  (refl, ap (λ b. record after { is_json = b }) (reads.1 ∙ ap (λ (r : Raw). r.json) is)),
)
gave (inl Html) words old now after spells (none, is) reads = (
  record after { is_html = false },
  (
    reads.0 ∙ ap (λ (r : Raw). r.script) is,
    reads.1 ∙ ap (λ (r : Raw). r.json) is,
    subst (λ (r : Raw). LineReads r.at after.last) is reads.2,
    sym (ap (λ (r : Raw). r.server) is) ∙ reads.3,
    sym none,
  ),
  html_given,
  spells,
  (refl, ap (λ b. record after { is_html = b }) (reads.4 ∙ ap (λ (r : Raw). r.html) is)),
)
gave (inr (At, t)) words old now after spells (none, is, fits) reads =
    let (n, line, writes) = subst (λ (r : Raw). LineReads r.at after.last) is reads.2 in (
      record after { last = None },
      (
        reads.0 ∙ ap (λ (r : Raw). r.script) is,
        reads.1 ∙ ap (λ (r : Raw). r.json) is,
        subst (λ o. LineReads o None) (sym none) refl,
        sym (ap (λ (r : Raw). r.server) is) ∙ reads.3,
        reads.4 ∙ ap (λ (r : Raw). r.html) is,
      ),
      line_given n,
      (t, writes, given_text spells),
      (refl, ap (λ o. record after { last = o }) line),
    )
  where
    given_text : Spells options (inr (At, t)) words → GiveText (codes "at") t words
    given_text (inl one) = inl one
    given_text (inr (two, bare)) = inr (two, no_minus t fits)
gave (inr (ServerName, t)) words old now after spells (none, is) reads = go after.server refl
  where
    named : (s : Server) → Some t ≡ Some (server_name s) → t ≡ server_name s
    named s e = ap (λ o. Rattle.std.specs.Prelude.unwrap_or o t) e

    given_text : (s : Server) → t ≡ server_name s → Spells options (inr (ServerName, t)) words → GiveText (codes "server") (server_name s) words
    given_text s same (inl one) = inl (one ∙ ap (λ t. (codes "--" ++ codes "server" ++ codes "=" ++ t) ∷ []) same)
    given_text s same (inr (two, bare)) = inr (two ∙ ap (λ t. (codes "--" ++ codes "server") ∷ t ∷ []) same, server_no_minus s)

    go : (o : Option Server) → after.server ≡ o → Gave (inr (ServerName, t)) words old after
    go None e = absurd (bad (sym (ap (λ (r : Raw). r.server) is) ∙ reads.3 ∙ ap (option_map server_name) e))
      where
        bad : Some t ≡ None → ⊥
        bad e = cc
    go (Some s) e =
        let same = named s (sym (ap (λ (r : Raw). r.server) is) ∙ reads.3 ∙ ap (option_map server_name) e) in (
          record after { server = None },
          (
            reads.0 ∙ ap (λ (r : Raw). r.script) is,
            reads.1 ∙ ap (λ (r : Raw). r.json) is,
            subst (λ (r : Raw). LineReads r.at after.last) is reads.2,
            none,
            reads.4 ∙ ap (λ (r : Raw). r.html) is,
          ),
          ServerOf s,
          given_text s same spells,
          (refl, ap (λ o. record after { server = o }) e),
        )

all_gave : (uses : List (Use options)) (words : List Text) (old new : Raw) (after : Options) → GiveUses uses words old new → Reads new after
    → (before : Options) × Reads old before × (all : List Given) × GiveOptions all words before after
all_gave [] words old new after (none, same) reads = (after, subst (λ r. Reads r after) same reads, [], (none, refl))
all_gave (u ∷ more) words old new after (first, rest, now, is, spells, adds, gives) reads =
    let (middle, read, all, given_all) = all_gave more rest now new after gives reads in
    let (before, reads_old, one, gives_one, adds_one) = gave u first old now middle spells adds read in
    (before, reads_old, one ∷ all, (first, rest, middle, is, gives_one, adds_one, given_all))

starts_bare : (before : Options) → Reads nothing_given before → before ≡ no_options
starts_bare before (script, json, line, server, html) =
    ap₂ (λ s j. record before { is_script = s; is_json = j }) script json
    ∙ ap₂ (λ l v. record before { is_script = false; is_json = false; last = l; server = v }) line (no_server before.server server)
    ∙ ap (λ h. record no_options { is_html = h }) html

-- the words of uses give the options that say what is found
pub options_given : (uses : List (Use options)) (words : List Text) (rows : List Row) → AreUses options uses words [] rows
    → (raw : Raw) × Shows rows raw × Fits raw.at × ((options : Options) → Reads raw options → (all : List Given) × GiveOptions all words no_options options)
options_given uses words rows are =
    let (raw, gives, shows, fits) = uses_shown uses words [] rows nothing_given are nothing_shown tt in (
      raw,
      shows,
      fits,
      λ options reads.
          let (before, bare, all, given_all) = all_gave uses words nothing_given raw options gives reads in
          (all, subst (λ o. GiveOptions all words o options) (starts_bare before bare) given_all),
    )

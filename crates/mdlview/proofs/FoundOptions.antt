-- What a parse finds of the options that words give.
use Rattle.std.proofs.Common.{◌≡◌, ◌∙◌, ap, refl, sym, subst, codes, true, false, Bool, ℕ, List, [], ◌∷◌, ◌++◌, Option, Some, None, option_map, if◌then◌else◌}
use Rattle.std.specs.Prelude.{fold}
use Rattle.std.specs.Str.{bytes_eq}
use Rattle.clap.specs.Matches.{first_value, found_of, one_text}
use Rattle.clap.specs.Walk.{Row, Text, first_of, has_row, more_values, one_of, rows_of, with_default, with_values}
use Rattle.clap.specs.declared.builder.value_parser.Reading.TheVariants.{AsWritten}
use Rattle.clap.specs.declared.parser.matches.ArgMatches.{ArgMatches}
use Rattle.clap.specs.declared.parser.matches.ValueSource.TheVariants.{DefaultValue}
use Rattle.clap.proofs.WalkLemmas.{first_value-rows, one_text-rows}
use Rattle.mdlview.specs.CommandLine.{HasLine, HasOptions, flag_word, server_name}
use Rattle.mdlview.specs.declared.asked.Options.{Options}
use Rattle.mdlview.proofs.FoundRows.{Has, at_fresh, first_read, has_kept, has_new, one_read}
use Rattle.mdlview.proofs.Options.{rules}
use Rattle.mdlview.proofs.OptionsGiven.{LineReads, Raw, Reads, Shows, flag_text}

-- a flag that wasn't given gets its default
abbrev defaulted : Text → List Row → List Row
defaulted id rows = if has_row id rows then rows else with_values id AsWritten DefaultValue (codes "false" ∷ []) rows

flag_defaulted : (id : Text) (rows : List Row) (given : Bool) → bytes_eq id id ≡ true → Has id rows (flag_text given) → Has id (defaulted id rows) (Some (flag_word given))
flag_defaulted id rows true same has = subst (λ b. Has id (if b then rows else with_values id AsWritten DefaultValue (codes "false" ∷ []) rows) (Some (codes "true"))) (sym has.0) has
flag_defaulted id rows false same fresh =
    subst (λ b. Has id (if b then rows else with_values id AsWritten DefaultValue (codes "false" ∷ []) rows) (Some (codes "false"))) (sym fresh)
    (subst (λ rows. Has id rows (Some (codes "false"))) (sym (at_fresh id (more_values DefaultValue (codes "false" ∷ [])) _ rows fresh))
    (has_new id rows _ (codes "false") same refl refl fresh))

other_defaulted : (id other : Text) (rows : List Row) (o : Option Text) → bytes_eq id other ≡ false → Has other rows o → Has other (defaulted id rows) o
other_defaulted id other rows o differ has = go (has_row id rows) refl
  where
    go : (b : Bool) → has_row id rows ≡ b → Has other (if b then rows else with_values id AsWritten DefaultValue (codes "false" ∷ []) rows) o
    go true e = has
    go false fresh =
        subst (λ rows. Has other rows o) (sym (at_fresh id (more_values DefaultValue (codes "false" ∷ [])) _ rows fresh)) (has_kept other rows _ o differ has)

-- an option without a default
unchanged : (b : Bool) (rows : List Row) → (if b then rows else rows) ≡ rows
unchanged true rows = refl
unchanged false rows = refl

finished_rows : (rows : List Row) → fold with_default rows rules ≡ defaulted (codes "html") (defaulted (codes "json") (defaulted (codes "script") rows))
finished_rows rows =
    let first = defaulted (codes "script") rows in
    let second = defaulted (codes "json") first in
    let third = defaulted (codes "html") second in
    ap (λ (rs : List Row). let j = defaulted (codes "json") rs in let n = if has_row (codes "server") j then j else j in
    let h = defaulted (codes "html") n in if has_row (codes "help") h then h else h)
    (unchanged (has_row (codes "at") first) first)
    ∙ ap (λ (rs : List Row). let h = defaulted (codes "html") rs in if has_row (codes "help") h then h else h) (unchanged (has_row (codes "server") second) second)
    ∙ unchanged (has_row (codes "help") third) third

-- what each option has at the end
abbrev json_rows : List Row → List Row
json_rows rows = defaulted (codes "json") (defaulted (codes "script") rows)

abbrev last_rows : List Row → List Row
last_rows rows = defaulted (codes "html") (json_rows rows)

module _ (rows : List Row) (raw : Raw) (shows : Shows rows raw) where
  script_last : Has (codes "script") (last_rows rows) (Some (flag_word raw.script))
  script_last =
      other_defaulted (codes "html") (codes "script") (json_rows rows) (Some (flag_word raw.script)) refl
      (other_defaulted (codes "json") (codes "script") (defaulted (codes "script") rows) (Some (flag_word raw.script)) refl
      (flag_defaulted (codes "script") rows raw.script refl shows.0))

  json_last : Has (codes "json") (last_rows rows) (Some (flag_word raw.json))
  json_last =
      other_defaulted (codes "html") (codes "json") (json_rows rows) (Some (flag_word raw.json)) refl
      (flag_defaulted (codes "json") (defaulted (codes "script") rows) raw.json refl
      (other_defaulted (codes "script") (codes "json") rows (flag_text raw.json) refl shows.1))

  -- one that two defaults come before
  kept : (id : Text) (o : Option Text) → bytes_eq (codes "script") id ≡ false → bytes_eq (codes "json") id ≡ false → Has id rows o → Has id (json_rows rows) o
  kept id o script json has =
      other_defaulted (codes "json") id (defaulted (codes "script") rows) o json (other_defaulted (codes "script") id rows o script has)

  line_last : Has (codes "at") (last_rows rows) raw.at
  line_last = other_defaulted (codes "html") (codes "at") (json_rows rows) raw.at refl (kept (codes "at") raw.at refl refl shows.2)

  server_last : Has (codes "server") (last_rows rows) raw.server
  server_last = other_defaulted (codes "html") (codes "server") (json_rows rows) raw.server refl (kept (codes "server") raw.server refl refl shows.3)

  html_last : Has (codes "html") (last_rows rows) (Some (flag_word raw.html))
  html_last = flag_defaulted (codes "html") (json_rows rows) raw.html refl (kept (codes "html") (flag_text raw.html) refl refl shows.4)

-- what a getter reads of an option that has this at the end
one_found : (m : ArgMatches) (rows : List Row) (id : Text) (o : Option Text) → rows_of (found_of m) ≡ fold with_default rows rules → Has id (last_rows rows) o
    → one_text (found_of m) id ≡ o
one_found m rows id o is has = one_text-rows (found_of m) id ∙ ap (one_of id) (is ∙ finished_rows rows) ∙ one_read id (last_rows rows) o has

line_found : (found text : Option Text) (line : Option ℕ) → found ≡ text → LineReads text line → HasLine found line
line_found found None line is none = subst (HasLine found) (sym none) is
line_found found (Some t) line is (n, same, writes) = subst (HasLine found) (sym same) (t, is, writes)

-- the server's name that was found
pub server_found : (m : ArgMatches) (rows : List Row) (raw : Raw) → rows_of (found_of m) ≡ fold with_default rows rules → Shows rows raw
    → first_value (found_of m) (codes "server") ≡ raw.server
server_found m rows raw is shows =
    first_value-rows (found_of m) (codes "server") ∙ ap (first_of (codes "server")) (is ∙ finished_rows rows)
    ∙ first_read (codes "server") (last_rows rows) raw.server (server_last rows raw shows)

-- the options that the rows show are found
pub finds : (m : ArgMatches) (rows : List Row) (raw : Raw) (options : Options) → rows_of (found_of m) ≡ fold with_default rows rules → Shows rows raw → Reads raw options
    → HasOptions m options
finds m rows raw options is shows reads = (
  one_found m rows (codes "script") (Some (flag_word raw.script)) is (script_last rows raw shows) ∙ ap (λ b. Some (flag_word b)) (sym reads.0),
  one_found m rows (codes "json") (Some (flag_word raw.json)) is (json_last rows raw shows) ∙ ap (λ b. Some (flag_word b)) (sym reads.1),
  line_found (one_text (found_of m) (codes "at")) raw.at options.last (one_found m rows (codes "at") raw.at is (line_last rows raw shows)) reads.2,
  server_found m rows raw is shows ∙ reads.3,
  one_found m rows (codes "html") (Some (flag_word raw.html)) is (html_last rows raw shows) ∙ ap (λ b. Some (flag_word b)) (sym reads.4),
)

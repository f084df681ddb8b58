-- Words that give options are taken, and the options are found in them.
use Rattle.std.proofs.Common.{◌≡◌, ◌∙◌, inl, inr, ap, refl, sym, subst, codes, true, false, List, [], ◌∷◌, ◌++◌, Option, Some, None, option_map, append-nil, append_assoc}
use Rattle.std.specs.Prelude.{fold}
use Rattle.clap.specs.Walk.{Row, Text, has_row, nothing_held, rows_after, with_default}
use Rattle.clap.specs.Takes.{level_passes}
use Rattle.clap.specs.declared.builder.value_parser.ValueParser.TheVariants.{Unsigned}
use Rattle.clap.proofs.ValueTestLemmas.{Accepts-accepts}
use Rattle.mdl_words.proofs.Levels.{IsEnd, start}
use Rattle.mdl_words.proofs.OptionWords.{level, rows_used}
use Rattle.mdl_words.proofs.OptionsTaken.{Stands, flag_behind, nothing_stands, text_behind, words_taken}
use Rattle.mdlview.specs.CommandLine.{Adds, GiveOption, GiveOptions, Given, last_line, no_options, server_name}
use Rattle.mdlview.specs.CommandLine.Given.{Script as script_given, Json as json_given, At as line_given, ServerOf, Html as html_given}
use Rattle.mdlview.specs.declared.asked.Options.{Options}
use Rattle.mdlview.proofs.FoundRows.{Has}
use Rattle.mdlview.proofs.Options.{options}
use Rattle.mdlview.proofs.Options.Flag.{Script, Json, Html}
use Rattle.mdlview.proofs.Options.Valued.{At, ServerName}
use Rattle.mdlview.proofs.OptionsGiven.{LineReads, Raw, Reads, Shows, at_shown, flag_text, html_shown, json_shown, nothing_given, nothing_read, nothing_shown, script_shown, server_shown}

-- ---- an option, and all

-- the rows have what the options say
abbrev pub AreShown : List Row → Options → Type 0
AreShown rows given = (raw : Raw) × Shows rows raw × Reads raw given

no_line : (o : Option Text) → LineReads o None → o ≡ None
no_line None is = refl
no_line (Some t) (n, is, writes) = absurd (cc)

-- behind more words, which give an option that wasn't given before
one_more : (name : Text) (one : Given) (front words : List Text) (rows : List Row) (old new : Options) → GiveOption one words → Adds one old new → AreShown rows old → Stands options name start front rows
    → (after : List Row) × AreShown after new × Stands options name start (front ++ words) after
one_more name script_given front words rows old new is (none, same) (raw, shows, reads) stands =
    let absent = sym reads.0 ∙ none in
    let fresh : has_row (codes "script") rows ≡ false = subst (λ b. Has (codes "script") rows (flag_text b)) absent shows.0 in (
      rows_used options (inl Script) rows,
      (record raw { script = true }, script_shown rows raw shows absent, subst (Reads (record raw { script = true })) (sym same) (refl, reads.1, reads.2, reads.3, reads.4)),
      flag_behind options name Script front words rows is fresh stands,
    )
one_more name json_given front words rows old new is (none, same) (raw, shows, reads) stands =
    let absent = sym reads.1 ∙ none in
    let fresh : has_row (codes "json") rows ≡ false = subst (λ b. Has (codes "json") rows (flag_text b)) absent shows.1 in (
      rows_used options (inl Json) rows,
      (record raw { json = true }, json_shown rows raw shows absent, subst (Reads (record raw { json = true })) (sym same) (reads.0, refl, reads.2, reads.3, reads.4)),
      flag_behind options name Json front words rows is fresh stands,
    )
one_more name html_given front words rows old new is (none, same) (raw, shows, reads) stands =
    let absent = sym reads.4 ∙ none in
    let fresh : has_row (codes "html") rows ≡ false = subst (λ b. Has (codes "html") rows (flag_text b)) absent shows.4 in (
      rows_used options (inl Html) rows,
      (record raw { html = true }, html_shown rows raw shows absent, subst (Reads (record raw { html = true })) (sym same) (reads.0, reads.1, reads.2, reads.3, refl)),
      flag_behind options name Html front words rows is fresh stands,
    )
one_more name (line_given n) front words rows old new (t, writes, gives) (none, same) (raw, shows, reads) stands =
    let absent = no_line raw.at (subst (LineReads raw.at) none reads.2) in
    let fresh : has_row (codes "at") rows ≡ false = subst (Has (codes "at") rows) absent shows.2 in (
      rows_used options (inr (At, t)) rows,
      (record raw { at = Some t }, at_shown rows raw shows t absent, subst (Reads (record raw { at = Some t })) (sym same) (reads.0, reads.1, (n, refl, writes), reads.3, reads.4)),
      text_behind options name At t front words rows (Accepts-accepts false (Unsigned 1 last_line) t writes.0) fresh gives stands,
    )
one_more name (ServerOf s) front words rows old new gives (none, same) (raw, shows, reads) stands =
    let absent = reads.3 ∙ ap (option_map server_name) none in
    let fresh : has_row (codes "server") rows ≡ false = subst (Has (codes "server") rows) absent shows.3 in (
      rows_used options (inr (ServerName, server_name s)) rows,
      (
        record raw { server = Some (server_name s) },
        server_shown rows raw shows (server_name s) absent,
        subst (Reads (record raw { server = Some (server_name s) })) (sym same) (reads.0, reads.1, reads.2, refl, reads.4),
      ),
      text_behind options name ServerName (server_name s) front words rows refl fresh gives stands,
    )

all_stand : (name : Text) (all : List Given) (front words : List Text) (rows : List Row) (old new : Options) → GiveOptions all words old new → AreShown rows old → Stands options name start front rows
    → (after : List Row) × AreShown after new × Stands options name start (front ++ words) after
all_stand name [] front words rows old new (none, same) shown stands =
    (rows, subst (AreShown rows) (sym same) shown, subst (λ ws. Stands options name start ws rows) (sym (ap (λ ws. front ++ ws) none ∙ append-nil front)) stands)
all_stand name (one ∷ more) front words rows old new (first, rest, now, is, gives, adds, given_more) shown stands =
    let (after, shows, stands_more) = one_more name one front first rows old now gives adds shown stands in
    let (last, shows_all, stands_all) = all_stand name more (front ++ first) rest after now new given_more shows stands_more in
    (last, shows_all, subst (λ ws. Stands options name start ws last) (append_assoc front first rest ∙ sym (ap (λ ws. front ++ ws) is)) stands_all)

-- ---- the words of a level

-- the words are taken behind any name, and the options are found in them
abbrev pub AreTakenFor : List Text → Options → Type 0
AreTakenFor words given = ((name : Text) → level_passes (level options name) [] nothing_held words false ≡ true)
    × ((rows : List Row) × AreShown rows given × (rows_after options.rules [] words ≡ fold with_default rows options.rules))

pub options_taken : (all : List Given) (front end : List Text) (given : Options) → GiveOptions all front no_options given → IsEnd end → AreTakenFor (front ++ end) given
options_taken all front end given gives ends =
    let stand = λ (name : Text). all_stand name all [] front [] no_options given gives (nothing_given, nothing_shown, nothing_read) (nothing_stands options name) in
    let (rows, shown, stands) = stand [] in (
      λ name. (words_taken options name front end (stand name).0 (stand name).2 ends).0,
      (rows, shown, (words_taken options [] front end rows stands ends).1),
    )

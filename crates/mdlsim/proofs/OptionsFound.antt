-- Words that ask for a patience and a cache are taken, and both are found in them.
use Rattle.std.proofs.Common.{◌≡◌, ◌∙◌, ◌⊎◌, inl, inr, ap, refl, sym, subst, true, false, ℕ, List, [], ◌++◌, Option, Some, None}
use Rattle.std.specs.Prelude.{fold, unwrap_or}
use Rattle.clap.specs.Lexer.{without_minus}
use Rattle.clap.specs.Walk.{Row, Text, has_row, nothing_held, one_of, rows_after, with_default}
use Rattle.clap.specs.Takes.{level_passes}
use Rattle.clap.proofs.ValueTestLemmas.{Accepts-accepts}
use Rattle.mdl_words.proofs.Levels.{IsEnd, start}
use Rattle.mdl_words.proofs.OptionWords.{level, rows_used}
use Rattle.mdl_words.proofs.OptionsTaken.{AreTaken, Stands, no_more, nothing_stands, text_behind, words_taken}
use Rattle.mdlsim.specs.CommandLine.{AskForNumber, AskForThreads, WritesNumber, cache_option, patience_option}
use Rattle.mdlsim.proofs.Options.{Which, id_of, number_of, option_of, run, run_options}
use Rattle.mdlsim.proofs.Options.Which.{Patience, Cache}

-- ---- an option that is given, or not

-- the rows then, and the text that is found
abbrev rows_with : Which → Option Text → List Row → List Row
rows_with o None rows = rows
rows_with o (Some t) rows = rows_used run_options (inr (o, t)) rows

abbrev text_of : Which → Option Text → Text
text_of o text = unwrap_or text (option_of o).default

-- behind more words, which ask for a number of an option that was not used before
asked_stands : (o : Which) (n : ℕ) (front words : List Text) (rows : List Row) → Stands run_options run start front rows → AskForNumber (option_of o) n words → has_row (id_of o) rows ≡ false
    → (text : Option Text) × WritesNumber (option_of o) (text_of o text) n × Stands run_options run start (front ++ words) (rows_with o text rows)
asked_stands o n front words rows stands (t, writes, inl gives) fresh =
    (Some t, writes, text_behind run_options run o t front words rows (Accepts-accepts false (number_of o) t writes.0) fresh gives stands)
asked_stands o n front words rows stands (t, writes, inr (none, usual)) fresh =
    (None, subst (λ t. WritesNumber (option_of o) t n) usual writes, no_more run_options run front words rows none stands)

-- ---- the words behind `run`

-- each option has one text, whichever was used first
finds_both : (p c : Option Text) (rows : List Row) → (rows ≡ rows_with Cache c (rows_with Patience p [])) ⊎ (rows ≡ rows_with Patience p (rows_with Cache c []))
    → (one_of (id_of Patience) (fold with_default rows run_options.rules) ≡ Some (without_minus (text_of Patience p)))
    × (one_of (id_of Cache) (fold with_default rows run_options.rules) ≡ Some (without_minus (text_of Cache c)))
finds_both None None rows (inl e) = rw e (refl, refl)
finds_both None None rows (inr e) = rw e (refl, refl)
finds_both (Some t) None rows (inl e) = rw e (refl, refl)
finds_both (Some t) None rows (inr e) = rw e (refl, refl)
finds_both None (Some u) rows (inl e) = rw e (refl, refl)
finds_both None (Some u) rows (inr e) = rw e (refl, refl)
finds_both (Some t) (Some u) rows (inl e) = rw e (refl, refl)
finds_both (Some t) (Some u) rows (inr e) = rw e (refl, refl)

-- the other option was not used
other_fresh : (o next : Which) (text : Option Text) → (o ≡ next → ⊥) → has_row (id_of next) (rows_with o text []) ≡ false
other_fresh Patience Patience text other = absurd (other refl)
other_fresh Cache Cache text other = absurd (other refl)
other_fresh o next None other = refl
other_fresh Patience Cache (Some t) other = refl
other_fresh Cache Patience (Some t) other = refl

-- the words are taken, and a number is found for each option
abbrev pub AreFound : ℕ → ℕ → List Text → Type 0
AreFound p c words = (level_passes (level run_options run) [] nothing_held words false ≡ true)
    × ((t : Text) × WritesNumber patience_option t p × (one_of (id_of Patience) (rows_after run_options.rules [] words) ≡ Some (without_minus t)))
    × ((u : Text) × WritesNumber cache_option u c × (one_of (id_of Cache) (rows_after run_options.rules [] words) ≡ Some (without_minus u)))

both_found : (p c : ℕ) (words : List Text) (text store : Option Text) (rows : List Row) → WritesNumber patience_option (text_of Patience text) p → WritesNumber cache_option (text_of Cache store) c
    → AreTaken run_options run words rows → (rows ≡ rows_with Cache store (rows_with Patience text [])) ⊎ (rows ≡ rows_with Patience text (rows_with Cache store []))
    → AreFound p c words
both_found p c words text store rows writes fits (passes, is) order =
    let finds = finds_both text store rows order in
    (passes, (text_of Patience text, writes, ap (one_of (id_of Patience)) is ∙ finds.0), (text_of Cache store, fits, ap (one_of (id_of Cache)) is ∙ finds.1))

pub options_found : (p c : ℕ) (options end : List Text) → AskForThreads p c options → IsEnd end → AreFound p c (options ++ end)
options_found p c options end (first, next, patient, kept, inl is) ends =
    let (text, writes, stands) = asked_stands Patience p [] first [] (nothing_stands run_options run) patient refl in
    let (store, fits, all) = asked_stands Cache c first next (rows_with Patience text []) stands kept (other_fresh Patience Cache text (λ e. cc)) in
    subst (λ ws. AreFound p c (ws ++ end)) (sym is)
    (both_found p c (first ++ next ++ end) text store _ writes fits (words_taken run_options run (first ++ next) end _ all ends) (inl refl))
options_found p c options end (first, next, patient, kept, inr is) ends =
    let (store, fits, stands) = asked_stands Cache c [] next [] (nothing_stands run_options run) kept refl in
    let (text, writes, all) = asked_stands Patience p next first (rows_with Cache store []) stands patient (other_fresh Cache Patience store (λ e. cc)) in
    subst (λ ws. AreFound p c (ws ++ end)) (sym is)
    (both_found p c (next ++ first ++ end) text store _ writes fits (words_taken run_options run (next ++ first) end _ all ends) (inr refl))

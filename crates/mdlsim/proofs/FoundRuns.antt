-- What a parse finds in the words of a run.
use Rattle.std.proofs.Common.{◌≡◌, ◌∙◌, ◌⊎◌, inl, inr, ap, refl, sym, codes, ℕ, List, [], ◌∷◌, ◌++◌, Option, Some, None, option_map, drop, if◌then◌else◌}
use Rattle.std.specs.Prelude.{option_and_then, unwrap_or}
use Rattle.std.specs.Str.{bytes_eq}
use Rattle.clap.specs.Lexer.{without_minus}
use Rattle.clap.specs.Walk.{Row, Text, one_of, rows_of}
use Rattle.clap.specs.Simple.{App, HasMatchesOf, is_simple, subcommand_of, subcommand_rows}
use Rattle.clap.specs.Matches.{found_of, one_text, subcommand_name_of}
use Rattle.clap.specs.declared.parser.matches.ArgMatches.{ArgMatches}
use Rattle.clap.specs.declared.parser.matches.ArgMatches.TheViews.{out-ArgMatches}
use Rattle.mdl_key.specs.declared.namespace.Kind.{Kind}
use Rattle.mdl_key.specs.declared.namespace.Kind.TheVariants.{Scoped, Object}
use Rattle.mdl_program.specs.declared.program.Run.{Run}
use Rattle.mdl_program.specs.declared.program.Run.TheVariants.{Lock, Matrix, Replay, Explain, Threads}
use Rattle.mdlsim.specs.CommandLine.{Asks, Finds, HasNumber, NumberOption, WritesNumber, cache_option, mdlsim, patience_option}
use Rattle.clap.proofs.OnLiterals.{clap_on_literals}
use Rattle.clap.proofs.WalkLemmas.{one_text-rows}
use Rattle.mdl_words.proofs.ShortOptions.{dash}
use Rattle.mdl_words.proofs.Subcommands.{name_kept}
use Rattle.mdlsim.proofs.CommandWords.{run_entered, threads_words}
use Rattle.mdlsim.proofs.Options.{lock, matrix, replay, explain, run as run_name}
use Rattle.mdlsim.proofs.OptionsFound.{options_found}

-- of a command with the shape of `mdlsim`
pub finds : (a : App) (words : List Text) (run : Run) (m : ArgMatches) → a ≡ mdlsim → Asks (drop 1 words) run → HasMatchesOf a words m → Finds run m
finds a words run m is asked has = (drop 1 words, asked, (has (ap is_simple is)).1 ∙ ap (λ b. subcommand_of b words) is)

-- ---- what says which run it is

-- the subcommand of a run
abbrev subcommand_of_run : Run → Text
subcommand_of_run (Lock kind) = lock
subcommand_of_run Matrix = matrix
subcommand_of_run Replay = replay
subcommand_of_run Explain = explain
subcommand_of_run (Threads p c) = run_name

-- the name and the rows of the subcommand that the words name
abbrev named_by : List Text → Option Text
named_by words = option_map (λ (p : Text × List Row). p.0) (subcommand_of mdlsim (codes "mdlsim" ∷ words))

abbrev rows_by : List Text → Option (List Row)
rows_by words = option_map (λ (p : Text × List Row). p.1) (subcommand_of mdlsim (codes "mdlsim" ∷ words))

name_found : (words : List Text) (run : Run) → Asks words run → named_by words ≡ Some (subcommand_of_run run)
unfolding clap_on_literals
name_found words (Lock Object) (inl e) = ap named_by e
name_found words (Lock Object) (inr (front, is, e)) = ap named_by (is ∙ ap (λ xs. xs ++ dash ∷ []) e)
name_found words (Lock Scoped) (inl e) = ap named_by e
name_found words (Lock Scoped) (inr (front, is, e)) = ap named_by (is ∙ ap (λ xs. xs ++ dash ∷ []) e)
name_found words Matrix (inl e) = ap named_by e
name_found words Matrix (inr (front, is, e)) = ap named_by (is ∙ ap (λ xs. xs ++ dash ∷ []) e)
name_found words Replay (inl e) = ap named_by e
name_found words Replay (inr (front, is, e)) = ap named_by (is ∙ ap (λ xs. xs ++ dash ∷ []) e)
name_found words Explain (inl e) = ap named_by e
name_found words Explain (inr (front, is, e)) = ap named_by (is ∙ ap (λ xs. xs ++ dash ∷ []) e)
name_found words (Threads p c) asked =
    let (options, end, asks, ends, is) = threads_words words p c asked in
    ap named_by is ∙ ap (option_map (λ (p : Text × List Row). p.0)) (run_entered (options ++ end))

named : (run : Run) (m : ArgMatches) → Finds run m → subcommand_name_of m ≡ Some (subcommand_of_run run)
named run m (words, asked, is) = name_kept (out-ArgMatches m).subcommand ∙ ap (option_map (λ (p : Text × List Row). p.0)) is ∙ name_found words run asked

-- what is found of `--scoped`
abbrev flag_of : Kind → Text
flag_of Object = codes "false"
flag_of Scoped = codes "true"

flag_in : (words : List Text) (kind : Kind) → Asks words (Lock kind) → option_and_then (one_of (codes "scoped")) (rows_by words) ≡ Some (flag_of kind)
unfolding clap_on_literals
flag_in words Object (inl e) = ap (λ w. option_and_then (one_of (codes "scoped")) (rows_by w)) e
flag_in words Object (inr (front, is, e)) = ap (λ w. option_and_then (one_of (codes "scoped")) (rows_by w)) (is ∙ ap (λ xs. xs ++ dash ∷ []) e)
flag_in words Scoped (inl e) = ap (λ w. option_and_then (one_of (codes "scoped")) (rows_by w)) e
flag_in words Scoped (inr (front, is, e)) = ap (λ w. option_and_then (one_of (codes "scoped")) (rows_by w)) (is ∙ ap (λ xs. xs ++ dash ∷ []) e)

-- the options have the rows of the subcommand
abbrev pub AreOptionsOf : ArgMatches → ArgMatches → Type 0
AreOptionsOf m options = Some (rows_of (found_of options)) ≡ option_map (λ (p : Text × List Row). p.1) (subcommand_rows (out-ArgMatches m).subcommand)

flag_found : (kind : Kind) (m options : ArgMatches) → Finds (Lock kind) m → AreOptionsOf m options → one_text (found_of options) (codes "scoped") ≡ Some (flag_of kind)
flag_found kind m options (words, asked, is) rows =
    one_text-rows (found_of options) (codes "scoped")
    ∙ ap (option_and_then (one_of (codes "scoped"))) (rows ∙ ap (option_map (λ (p : Text × List Row). p.1)) is) ∙ flag_in words kind asked

pub is_lock : (run : Run) (m options : ArgMatches) (kind : Kind) → Finds run m → Some lock ≡ subcommand_name_of m → AreOptionsOf m options
    → (one_text (found_of options) (codes "scoped") ≡ Some (codes "true") → kind ≡ Scoped)
    → (one_text (found_of options) (codes "scoped") ≡ Some (codes "false") → kind ≡ Object)
    → Lock kind ≡ run
is_lock (Lock Object) m options kind finds name rows scoped object = ap Lock (object (flag_found Object m options finds rows))
is_lock (Lock Scoped) m options kind finds name rows scoped object = ap Lock (scoped (flag_found Scoped m options finds rows))
is_lock Matrix m options kind finds name rows scoped object = absurd (other (name ∙ named Matrix m finds))
  where
    other : Some lock ≡ Some matrix → ⊥
    other e = cc
is_lock Replay m options kind finds name rows scoped object = absurd (other (name ∙ named Replay m finds))
  where
    other : Some lock ≡ Some replay → ⊥
    other e = cc
is_lock Explain m options kind finds name rows scoped object = absurd (other (name ∙ named Explain m finds))
  where
    other : Some lock ≡ Some explain → ⊥
    other e = cc
is_lock (Threads p c) m options kind finds name rows scoped object = absurd (other (name ∙ named (Threads p c) m finds))
  where
    other : Some lock ≡ Some run_name → ⊥
    other e = cc

-- the text that is found of an option has its number
number_found : (option : NumberOption) (n : ℕ) (m options : ArgMatches) (rows : Option (List Row)) → AreOptionsOf m options
    → option_map (λ (p : Text × List Row). p.1) (subcommand_rows (out-ArgMatches m).subcommand) ≡ rows
    → (t : Text) × WritesNumber option t n × (option_and_then (one_of option.name) rows ≡ Some (without_minus t)) → HasNumber option options n
number_found option n m options rows are is (t, writes, found) =
    (t, writes, one_text-rows (found_of options) option.name ∙ ap (option_and_then (one_of option.name)) (are ∙ is) ∙ found)

pub is_threads : (run : Run) (m options : ArgMatches) → Finds run m → Some run_name ≡ subcommand_name_of m → AreOptionsOf m options
    → (p c : ℕ) × HasNumber patience_option options p × HasNumber cache_option options c × (Threads p c ≡ run)
is_threads (Threads p c) m options (words, asked, is) name rows =
    let (front, end, asks, ends, spelt) = threads_words words p c asked in
    let (passes, patience, cache) = options_found p c front end asks ends in
    let entered = ap (λ w. rows_by w) spelt ∙ ap (option_map (λ (p : Text × List Row). p.1)) (run_entered (front ++ end)) in
    let are = ap (option_map (λ (p : Text × List Row). p.1)) is ∙ entered in
    (p, c, number_found patience_option p m options _ rows are patience, number_found cache_option c m options _ rows are cache, refl)
is_threads (Lock kind) m options finds name rows = absurd (other (name ∙ named (Lock kind) m finds))
  where
    other : Some run_name ≡ Some lock → ⊥
    other e = cc
is_threads Matrix m options finds name rows = absurd (other (name ∙ named Matrix m finds))
  where
    other : Some run_name ≡ Some matrix → ⊥
    other e = cc
is_threads Replay m options finds name rows = absurd (other (name ∙ named Replay m finds))
  where
    other : Some run_name ≡ Some replay → ⊥
    other e = cc
is_threads Explain m options finds name rows = absurd (other (name ∙ named Explain m finds))
  where
    other : Some run_name ≡ Some explain → ⊥
    other e = cc

-- the run without options that a subcommand asks for
abbrev plain_run : Option Text → Option Run
plain_run None = None
plain_run (Some name) = if bytes_eq name matrix then Some Matrix else (if bytes_eq name replay then Some Replay else (if bytes_eq name explain then Some Explain else None))

-- the subcommand of a run without options asks for that run alone
pub is_plain : (asked run : Run) (m : ArgMatches) → plain_run (Some (subcommand_of_run asked)) ≡ Some asked → Finds run m
    → Some (subcommand_of_run asked) ≡ subcommand_name_of m → asked ≡ run
is_plain asked run m plain is name = same run (sym plain ∙ ap plain_run (name ∙ named run m is))
  where
    same : (run : Run) → Some asked ≡ plain_run (Some (subcommand_of_run run)) → asked ≡ run
    same (Lock kind) e = absurd (cc)
    same Matrix e = ap (λ o. unwrap_or o asked) e
    same Replay e = ap (λ o. unwrap_or o asked) e
    same Explain e = ap (λ o. unwrap_or o asked) e
    same (Threads p c) e = absurd (cc)

pub is_one : (run : Run) (m : ArgMatches) → Finds run m
    → (subcommand_name_of m ≡ Some lock) ⊎ ((subcommand_name_of m ≡ Some matrix) ⊎ ((subcommand_name_of m ≡ Some replay) ⊎ ((subcommand_name_of m ≡ Some explain) ⊎ (subcommand_name_of m ≡ Some run_name))))
is_one (Lock kind) m is = inl (named (Lock kind) m is)
is_one Matrix m is = inr (inl (named Matrix m is))
is_one Replay m is = inr (inr (inl (named Replay m is)))
is_one Explain m is = inr (inr (inr (inl (named Explain m is))))
is_one (Threads p c) m is = inr (inr (inr (inr (named (Threads p c) m is))))

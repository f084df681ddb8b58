-- Which words the command of `mdlsim` takes, by clap's account of a parse.
use Rattle.std.proofs.Common.{◌≡◌, ◌∙◌, ◌⊎◌, ◌&&◌, inl, inr, ap, refl, sym, subst, ap₂, true, false, true≢false, ℕ, List, [], ◌∷◌, ◌++◌, Some, is_some, drop, codes, append-nil}
use Rattle.std.specs.List.{list_all}
use Rattle.std.specs.Str.{bytes_eq}
use Rattle.clap.specs.Walk.{Names, Text, Walk, finished, nothing_held, rows_after, walked}
use Rattle.clap.specs.Simple.{App, Shape, built, entered, subcommand_of}
use Rattle.clap.specs.Takes.{default_passes, entered_passes, is_valid, level_passes, settle_passes, takes, walk_passes}
use Rattle.clap.specs.Faults.{built_fault, defaults_fault, fault_of, is_simple_and_free, turn_fault, walk_fault}
use Rattle.mdl_key.specs.declared.namespace.Kind.TheVariants.{Scoped, Object}
use Rattle.mdl_program.specs.declared.program.Run.{Run}
use Rattle.mdl_program.specs.declared.program.Run.TheVariants.{Lock, Matrix, Replay, Explain, Threads}
use Rattle.mdl_words.proofs.Levels.{IsEnd, start}
use Rattle.mdl_words.proofs.OptionWords.{level}
use Rattle.mdl_words.proofs.ShortOptions.{dash, neither, refuses}
use Rattle.mdl_words.proofs.Subcommands.{below, first_turn, name_met, plain_names, stopped_at, top_passes, walk_is}
use Rattle.mdlsim.specs.CommandLine.{AreWordsOf, AskForThreads, Asks, mdlsim}
use Rattle.clap.proofs.OnLiterals.{clap_on_literals}
use Rattle.mdlsim.proofs.Options.{lock, matrix, replay, explain, run, run_options}
use Rattle.mdlsim.proofs.OptionsFound.{options_found}
use Rattle.mdlsim.proofs.OptionsGiven.{lock_asks, plain_asks, run_asks, scoped}

abbrev pub top : Shape
top = (built mdlsim).top

abbrev all_names : List Text
all_names = lock ∷ matrix ∷ replay ∷ explain ∷ run ∷ codes "help" ∷ []

abbrev pub names : Names
names = plain_names all_names

-- a subcommand stops the walk
abbrev Stops : Text → Type 0
Stops name = ◌≡◌ {A = Walk} (walked top.rules names start name) (stopped_at name [])

run_stops : Stops run
unfolding walked
run_stops = refl

-- the words of a run on threads, and what closes them
pub threads_words : (words : List Text) (p c : ℕ) → Asks words (Threads p c)
    → (options : List Text) × (end : List Text) × AskForThreads p c options × IsEnd end × (words ≡ run ∷ (options ++ end))
threads_words words p c (inl (options, is, asks)) = (options, [], asks, inl refl, is ∙ ap (λ xs. run ∷ xs) (sym (append-nil options)))
threads_words words p c (inr (front, closes, (options, is, asks))) = (options, dash ∷ [], asks, inr refl, closes ∙ ap (λ xs. xs ++ dash ∷ []) is)

-- ---- what is taken

-- words behind `run` are taken where their level takes them
run_taken : (rest : List Text) → level_passes (level run_options run) [] nothing_held rest false ≡ true → takes mdlsim (codes "mdlsim" ∷ run ∷ rest) ≡ true
unfolding walk_passes walked
run_taken rest passes =
    ap₂ (λ b (w : Walk). entered_passes (built mdlsim) w.stopped && ((b && (settle_passes top.rules false w.held && (list_all default_passes top.rules
    && is_valid top (finished top.rules w.held) (is_some (entered (built mdlsim) w.stopped)))))))
    (top_passes (codes "mdlsim") names run rest []) (walk_is (built mdlsim) run run_stops rest)
    ∙ ap (λ b. b && true) passes

taken_from : (words : List Text) (run : Run) → Asks words run → takes mdlsim (codes "mdlsim" ∷ words) ≡ true
unfolding clap_on_literals
taken_from words (Lock Object) (inl e) = ap (λ rest. takes mdlsim (codes "mdlsim" ∷ rest)) e
taken_from words (Lock Object) (inr (front, is, e)) = ap (λ rest. takes mdlsim (codes "mdlsim" ∷ rest)) (is ∙ ap (λ xs. xs ++ dash ∷ []) e)
taken_from words (Lock Scoped) (inl e) = ap (λ rest. takes mdlsim (codes "mdlsim" ∷ rest)) e
taken_from words (Lock Scoped) (inr (front, is, e)) = ap (λ rest. takes mdlsim (codes "mdlsim" ∷ rest)) (is ∙ ap (λ xs. xs ++ dash ∷ []) e)
taken_from words Matrix (inl e) = ap (λ rest. takes mdlsim (codes "mdlsim" ∷ rest)) e
taken_from words Matrix (inr (front, is, e)) = ap (λ rest. takes mdlsim (codes "mdlsim" ∷ rest)) (is ∙ ap (λ xs. xs ++ dash ∷ []) e)
taken_from words Replay (inl e) = ap (λ rest. takes mdlsim (codes "mdlsim" ∷ rest)) e
taken_from words Replay (inr (front, is, e)) = ap (λ rest. takes mdlsim (codes "mdlsim" ∷ rest)) (is ∙ ap (λ xs. xs ++ dash ∷ []) e)
taken_from words Explain (inl e) = ap (λ rest. takes mdlsim (codes "mdlsim" ∷ rest)) e
taken_from words Explain (inr (front, is, e)) = ap (λ rest. takes mdlsim (codes "mdlsim" ∷ rest)) (is ∙ ap (λ xs. xs ++ dash ∷ []) e)
taken_from words (Threads p c) asked =
    let (options, end, asks, ends, is) = threads_words words p c asked in
    ap (λ rest. takes mdlsim (codes "mdlsim" ∷ rest)) is ∙ run_taken (options ++ end) (options_found p c options end asks ends).0

-- what is found of `run`
pub run_entered : (rest : List Text) → subcommand_of mdlsim (codes "mdlsim" ∷ run ∷ rest) ≡ Some (run, rows_after run_options.rules [] rest)
run_entered rest = ap (λ (w : Walk). entered (built mdlsim) w.stopped) (walk_is (built mdlsim) run run_stops rest)

-- ---- what is refused

-- `--` comes too early: no subcommand follows
dash_first : (rest : List Text) → built_fault (built mdlsim) nothing_held (dash ∷ rest) ≡ [] → ⊥
unfolding walk_fault walked defaults_fault
dash_first [] e = refuses _ _ e
dash_first (x ∷ xs) e = refuses _ _ e

lock_first : (rest : List Text) → built_fault (built mdlsim) nothing_held (lock ∷ rest) ≡ [] → (run : Run) × Asks (lock ∷ rest) run
unfolding walked
lock_first rest e =
    elim (lock_asks rest (below (built mdlsim) lock refl rest e)) [
      | inl (inl none) ↦ (Lock Object, inl (ap (λ xs. lock ∷ xs) none))
      | inl (inr end) ↦ (Lock Object, inr (lock ∷ [], ap (λ xs. lock ∷ xs) end, refl))
      | inr (more, is, inl none) ↦ (Lock Scoped, inl (ap (λ xs. lock ∷ xs) is ∙ ap (λ xs. lock ∷ scoped ∷ xs) none))
      | inr (more, is, inr end) ↦ (Lock Scoped, inr (lock ∷ scoped ∷ [], ap (λ xs. lock ∷ xs) is ∙ ap (λ xs. lock ∷ scoped ∷ xs) end, refl))
    ]

-- a subcommand without options, whose name alone asks for a run
plain_first : (run : Run) (name : Text) (rest : List Text) → AreWordsOf run (name ∷ []) → IsEnd rest → (run : Run) × Asks (name ∷ rest) run
plain_first run name rest is (inl none) = (run, inl (subst (λ xs. AreWordsOf run (name ∷ xs)) (sym none) is))
plain_first run name rest is (inr end) = (run, inr (name ∷ [], ap (λ xs. name ∷ xs) end, is))

matrix_first : (rest : List Text) → built_fault (built mdlsim) nothing_held (matrix ∷ rest) ≡ [] → (run : Run) × Asks (matrix ∷ rest) run
unfolding walked
matrix_first rest e = plain_first Matrix matrix rest refl (plain_asks matrix rest (below (built mdlsim) matrix refl rest e))

replay_first : (rest : List Text) → built_fault (built mdlsim) nothing_held (replay ∷ rest) ≡ [] → (run : Run) × Asks (replay ∷ rest) run
unfolding walked
replay_first rest e = plain_first Replay replay rest refl (plain_asks replay rest (below (built mdlsim) replay refl rest e))

explain_first : (rest : List Text) → built_fault (built mdlsim) nothing_held (explain ∷ rest) ≡ [] → (run : Run) × Asks (explain ∷ rest) run
unfolding walked
explain_first rest e = plain_first Explain explain rest refl (plain_asks explain rest (below (built mdlsim) explain refl rest e))

run_first : (rest : List Text) → built_fault (built mdlsim) nothing_held (run ∷ rest) ≡ [] → (run : Run) × Asks (codes "run" ∷ rest) run
unfolding walked
run_first rest e =
    let (p, c, asks) = run_asks rest (below (built mdlsim) run refl rest e) in
    elim asks [
      | inl asked ↦ (Threads p c, inl (rest, refl, asked))
      | inr closed ↦ (Threads p c, inr (run ∷ closed.0, ap (λ xs. run ∷ xs) closed.1, (closed.0, refl, closed.2)))
    ]

-- a first word that names a subcommand
named_first : (w met : Text) (rest : List Text) → met ≡ w → bytes_eq met (codes "help") ≡ false → (w ≡ lock) ⊎ ((w ≡ matrix) ⊎ ((w ≡ replay) ⊎ ((w ≡ explain) ⊎ ((w ≡ run) ⊎ ((w ≡ codes "help") ⊎ ⊥)))))
    → built_fault (built mdlsim) nothing_held (w ∷ rest) ≡ [] → (run : Run) × Asks (w ∷ rest) run
named_first w met rest same other within e = elim within [
  | inl is ↦ subst (λ x. (run : Run) × Asks (x ∷ rest) run) (sym is) (lock_first rest (free lock is))
  | inr (inl is) ↦ subst (λ x. (run : Run) × Asks (x ∷ rest) run) (sym is) (matrix_first rest (free matrix is))
  | inr (inr (inl is)) ↦ subst (λ x. (run : Run) × Asks (x ∷ rest) run) (sym is) (replay_first rest (free replay is))
  | inr (inr (inr (inl is))) ↦ subst (λ x. (run : Run) × Asks (x ∷ rest) run) (sym is) (explain_first rest (free explain is))
  | inr (inr (inr (inr (inl is)))) ↦ subst (λ x. (run : Run) × Asks (x ∷ rest) run) (sym is) (run_first rest (free run is))
  | inr (inr (inr (inr (inr (inl is))))) ↦ absurd (true≢false (sym (ap (λ x. bytes_eq x (codes "help")) (same ∙ is)) ∙ other))
  | inr (inr (inr (inr (inr (inr never))))) ↦ absurd never
]
  where
    free : (name : Text) → w ≡ name → built_fault (built mdlsim) nothing_held (name ∷ rest) ≡ []
    free name is = subst (λ x. built_fault (built mdlsim) nothing_held (x ∷ rest) ≡ []) is e

asks_from : (words : List Text) → built_fault (built mdlsim) nothing_held words ≡ [] → (run : Run) × Asks words run
unfolding walk_fault defaults_fault
asks_from [] e = absurd (refuses _ _ e)
asks_from (w ∷ rest) e =
    let walks = neither (walk_fault top names start (w ∷ rest)) _ e in
    elim (first_turn (codes "mdlsim") names w (neither (turn_fault top names start w) _ walks.0).0) [
      | inl (met, is, other) ↦ let (same, within) = name_met all_names w met is in named_first w met rest same other within e
      | inr is ↦ absurd (dash_first rest (subst (λ x. built_fault (built mdlsim) nothing_held (x ∷ rest) ≡ []) is e))
    ]

-- ---- what `command` cites, of a command with the shape of `mdlsim`

pub asks : (a : App) (words : List Text) → a ≡ mdlsim → (is_simple_and_free a ≡ true → fault_of a words ≡ []) → (run : Run) × Asks (drop 1 words) run
asks a words is free = asks_from (drop 1 words) (ap (λ b. fault_of b words) (sym is) ∙ free (ap is_simple_and_free is))

pub taken : (a : App) (words : List Text) (run : Run) → a ≡ mdlsim → Asks (drop 1 words) run → takes a words ≡ true
taken a words run is asked = ap (λ b. takes b words) is ∙ taken_from (drop 1 words) run asked

-- What is found names the run's subcommand, and says of `--scoped` whether it was there, and what `--patience` and `--cache` have.
use Rattle.std.proofs.Common.{◌∙◌, ap₂, refl, rules, inl, inr}
use Rattle.mdl_program.specs.declared.program.Run.TheVariants.{Matrix, Replay, Explain, Threads}
use Rattle.mdlsim.proofs.FoundRuns.{is_lock, is_one, is_plain, is_threads}
use Rattle.mdlsim.proofs.command_line.run_found.Goals as goal
use Rattle.mdlsim.proofs.command_line.run_found.Goals.{in_default-via-in-Some+in_default, in_default-via-in_default}

pub unreachable-requires : goal.unreachable-requires
unreachable-requires c = elim (is_one c.requires.0 c.args.matches.now c.requires.1) [
  | inl name ↦ let found = c.subcommand.ensures.name ∙ name in
      elim c.in_default.branch [ in_default-via-in-Some+in_default w ↦ search rules | in_default-via-in_default w ↦ search rules ]
  | inr (inl name) ↦ let found = c.subcommand.ensures.name ∙ name in
      elim c.in_default.branch [ in_default-via-in-Some+in_default w ↦ search rules | in_default-via-in_default w ↦ search rules ]
  | inr (inr (inl name)) ↦ let found = c.subcommand.ensures.name ∙ name in
      elim c.in_default.branch [ in_default-via-in-Some+in_default w ↦ search rules | in_default-via-in_default w ↦ search rules ]
  | inr (inr (inr (inl name))) ↦ let found = c.subcommand.ensures.name ∙ name in
      elim c.in_default.branch [ in_default-via-in-Some+in_default w ↦ search rules | in_default-via-in_default w ↦ search rules ]
  | inr (inr (inr (inr name))) ↦ let found = c.subcommand.ensures.name ∙ name in
      elim c.in_default.branch [ in_default-via-in-Some+in_default w ↦ search rules | in_default-via-in_default w ↦ search rules ]
]

pub returns-in-Some-lock-default : goal.returns-in-Some-lock-default
returns-in-Some-lock-default c run is =
    is_lock run c.args.matches.now c.in-Some-lock-default.options.now c.kind_found.result is (search rules) (search rules) c.kind_found.ensures.scoped c.kind_found.ensures.object

pub returns-in-Some-matrix-default : goal.returns-in-Some-matrix-default
returns-in-Some-matrix-default c run is = is_plain Matrix run c.args.matches.now refl is (search rules)

pub returns-in-Some-replay-default : goal.returns-in-Some-replay-default
returns-in-Some-replay-default c run is = is_plain Replay run c.args.matches.now refl is (search rules)

pub returns-in-Some-explain-default : goal.returns-in-Some-explain-default
returns-in-Some-explain-default c run is = is_plain Explain run c.args.matches.now refl is (search rules)

pub patience_found-requires : goal.patience_found-requires
patience_found-requires c =
    let (p, n, patience, cache, is) = is_threads c.requires.0 c.args.matches.now c.in-Some-run-default.options.now c.requires.1 (search rules) (search rules) in
    (p, patience)

pub cache_found-requires : goal.cache_found-requires
cache_found-requires c =
    let (p, n, patience, cache, is) = is_threads c.requires.0 c.args.matches.now c.in-Some-run-default.options.now c.requires.1 (search rules) (search rules) in
    (n, cache)

pub returns-in-Some-run-default : goal.returns-in-Some-run-default
returns-in-Some-run-default c run finds =
    let (p, n, patience, cache, is) = is_threads run c.args.matches.now c.in-Some-run-default.options.now finds (search rules) (search rules) in
    ap₂ Threads (c.patience_found.ensures p patience) (c.cache_found.ensures n cache) ∙ is

-- What clap reads of the program, from the calls that make it.
use Rattle.std.proofs.Common.{◌≡◌, ◌∙◌, rules, ap, ap₂, codes, refl}
use Rattle.std.proofs.lemmas.Result.{IfOk-weaker}
use Rattle.clap.specs.Simple.{new_shape}
use Rattle.clap.specs.Words.{App, app_of, with_subcommand}
use Rattle.mdl_words.proofs.Subcommands.{no_globals}
use Rattle.mdlsim.specs.CommandLine.{without_subcommands}
use Rattle.mdlsim.proofs.command_line.program.Goals as goal

pub returns : goal.returns
returns c =
    let wants : app_of c.subcommand_required.result ≡ without_subcommands = search rules in
    let matrix_is : (app_of c.about-matrix.result).top ≡ new_shape (codes "matrix") = search rules in
    let replay_is : (app_of c.about-replay.result).top ≡ new_shape (codes "replay") = search rules in
    let explain_is : (app_of c.about-explain.result).top ≡ new_shape (codes "explain") = search rules in
    let with_lock = c.in_ok-subcommand.ensures.shape (no_globals _ _ c.in_ok-lock_subcommand.ensures refl) ∙ ap₂ with_subcommand wants (ap (λ (a : App). a.top) c.in_ok-lock_subcommand.ensures) in
    let with_matrix = c.in_ok-subcommand-2.ensures.shape (search rules) ∙ ap₂ with_subcommand with_lock matrix_is in
    let with_replay = c.in_ok-subcommand-3.ensures.shape (search rules) ∙ ap₂ with_subcommand with_matrix replay_is in
    let with_explain = c.in_ok-subcommand-4.ensures.shape (search rules) ∙ ap₂ with_subcommand with_replay explain_is in
    IfOk-weaker c.subcommand-5.result _ _ (λ r h. h.shape (no_globals _ _ c.in_ok-run_subcommand.ensures refl) ∙ ap₂ with_subcommand with_explain (ap (λ (a : App). a.top) c.in_ok-run_subcommand.ensures)) c.subcommand-5.ensures

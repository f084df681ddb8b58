-- What clap reads of the program, from the calls that make it.
use Rattle.std.proofs.Common.{◌≡◌, ◌∙◌, ap, ap₂, codes, refl, true}
use Rattle.std.proofs.lemmas.Result.{IfOk-weaker}
use Rattle.clap.specs.Simple.{app_of_fields, on_top}
use Rattle.clap.specs.Words.{App, Shape, app_of, new_app, with_subcommand}
use Rattle.mdl_words.proofs.Subcommands.{no_globals}
use Rattle.mdlview.specs.CommandLine.{with_options}
use Rattle.mdlview.proofs.command_line.program.Goals as goal

-- a command that wants a subcommand
abbrev requires_one : App → App
requires_one a = on_top (λ s. record s { subcommand_required = true }) a

abbrev top : App → Shape
top a = a.top

pub returns : goal.returns
returns c =
    let begun : app_of c.about.result ≡ new_app (codes "mdlview") = ap app_of_fields c.about.ensures ∙ c.new.ensures.app in
    let used : app_of c.override_usage.result ≡ app_of c.about.result = ap app_of_fields c.override_usage.ensures in
    let helped : app_of c.after_help.result ≡ app_of c.override_usage.result = ap app_of_fields c.after_help.ensures in
    let required : app_of c.subcommand_required.result ≡ requires_one (app_of c.after_help.result) = ap app_of_fields c.subcommand_required.ensures in
    let wants = required ∙ ap requires_one (helped ∙ used ∙ begun) in
    let why = c.in_ok-with_options.ensures ∙ ap with_options c.new-2.ensures.app in
    let locks = c.in_ok-with_options-2.ensures ∙ ap with_options c.new-3.ensures.app in
    let waits = c.in_ok-with_options-3.ensures ∙ ap with_options c.new-4.ensures.app in
    let graph = c.in_ok-with_options-4.ensures ∙ ap with_options c.new-5.ensures.app in
    let timeline = c.in_ok-with_options-5.ensures ∙ ap with_options c.new-6.ensures.app in
    let query = c.in_ok-with_options-6.ensures ∙ ap with_options c.new-7.ensures.app in
    let first = c.in_ok-subcommand.ensures.shape (no_globals _ _ why refl) ∙ ap₂ with_subcommand wants (ap top why) in
    let second = c.in_ok-subcommand-2.ensures.shape (no_globals _ _ locks refl) ∙ ap₂ with_subcommand first (ap top locks) in
    let third = c.in_ok-subcommand-3.ensures.shape (no_globals _ _ waits refl) ∙ ap₂ with_subcommand second (ap top waits) in
    let fourth = c.in_ok-subcommand-4.ensures.shape (no_globals _ _ graph refl) ∙ ap₂ with_subcommand third (ap top graph) in
    let fifth = c.in_ok-subcommand-5.ensures.shape (no_globals _ _ timeline refl) ∙ ap₂ with_subcommand fourth (ap top timeline) in
    IfOk-weaker c.subcommand-6.result _ _ (λ r h. h.shape (no_globals _ _ query refl) ∙ ap₂ with_subcommand fifth (ap top query)) c.subcommand-6.ensures

-- What clap reads of `run`, from the calls that make it.
use Rattle.std.proofs.Common.{◌≡◌, ◌∙◌, rules, ap₂, codes}
use Rattle.std.proofs.lemmas.Result.{IfOk-weaker}
use Rattle.clap.specs.Words.{app_of, new_app, with_rule}
use Rattle.mdlsim.proofs.command_line.run_subcommand.Goals as goal

pub returns : goal.returns
returns c =
    let begun : app_of c.about.result ≡ new_app (codes "run") = search rules in
    let first = c.in_ok-arg.ensures.shape c.patience_option.ensures.local ∙ ap₂ with_rule begun c.patience_option.ensures.rule in
    IfOk-weaker c.arg-2.result _ _ (λ r h. h.shape c.cache_option.ensures.local ∙ ap₂ with_rule first c.cache_option.ensures.rule) c.arg-2.ensures

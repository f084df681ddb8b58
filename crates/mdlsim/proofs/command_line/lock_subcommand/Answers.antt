-- What clap reads of `lock`, from the calls that make it.
use Rattle.std.proofs.Common.{◌≡◌, ◌∙◌, rules, ap₂, codes}
use Rattle.std.proofs.lemmas.Result.{IfOk-weaker}
use Rattle.clap.specs.Words.{app_of, new_app, rule_of, with_rule}
use Rattle.mdlsim.specs.CommandLine.{scoped_flag}
use Rattle.mdlsim.proofs.command_line.lock_subcommand.Goals as goal

pub returns : goal.returns
returns c =
    let flag_is : rule_of c.help-scoped.result ≡ scoped_flag = search rules in
    let begun : app_of c.about.result ≡ new_app (codes "lock") = search rules in
    IfOk-weaker c.arg.result _ _ (λ r h. h.shape (search rules) ∙ ap₂ with_rule begun flag_is) c.arg.ensures

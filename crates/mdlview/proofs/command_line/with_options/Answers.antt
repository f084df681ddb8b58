-- What clap reads of a command with all options, from the calls that make it.
use Rattle.std.proofs.Common.{◌≡◌, ◌∙◌, rules, ap₂}
use Rattle.std.proofs.lemmas.Result.{IfOk-weaker}
use Rattle.clap.specs.Words.{app_of, with_rule}
use Rattle.mdlview.proofs.command_line.with_options.Goals as goal

pub returns : goal.returns
returns c =
    let begun : app_of c.after_help.result ≡ app_of c.args.command = search rules in
    let script = c.in_ok-arg.ensures.shape c.script_option.ensures.local ∙ ap₂ with_rule begun c.script_option.ensures.rule in
    let line = c.in_ok-arg-2.ensures.shape c.at_option.ensures.local ∙ ap₂ with_rule script c.at_option.ensures.rule in
    let json = c.in_ok-arg-3.ensures.shape c.json_option.ensures.local ∙ ap₂ with_rule line c.json_option.ensures.rule in
    let server = c.in_ok-arg-4.ensures.shape c.server_option.ensures.local ∙ ap₂ with_rule json c.server_option.ensures.rule in
    IfOk-weaker c.arg-5.result _ _ (λ r h. h.shape c.html_option.ensures.local ∙ ap₂ with_rule server c.html_option.ensures.rule) c.arg-5.ensures

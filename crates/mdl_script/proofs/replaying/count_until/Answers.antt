-- They end before the first of a greater number, or with the last one.
use Rattle.std.proofs.Common.{not, ap, ◌∙◌, length, subst, ◌≤◌, sym}
use Rattle.std.specs.Option.{unwrap_or}
use Rattle.std.proofs.lemmas.List.Sums.{prefix_len-le-length}
use Rattle.mdl_script.specs.Output.{is_after}
use Rattle.mdl_script.proofs.ListLemmas.{first-or-len}
use Rattle.mdl_script.proofs.replaying.count_until.Goals as goal

pub returns-clause-place : goal.returns-clause-place
returns-clause-place c =
    c.unwrap_or.ensures ∙ ap (λ found. unwrap_or found (length c.args.lines.now)) c.first_after.ensures ∙ first-or-len (is_after c.args.last) c.args.lines.now

pub returns-clause-inside : goal.returns-clause-inside
returns-clause-inside c =
    let place = c.unwrap_or.ensures ∙ ap (λ found. unwrap_or found (length c.args.lines.now)) c.first_after.ensures ∙ first-or-len (is_after c.args.last) c.args.lines.now in
    subst (λ n. n ≤ length c.args.lines.now) (sym place) (prefix_len-le-length (λ line. not (is_after c.args.last line)) c.args.lines.now)

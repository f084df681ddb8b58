-- It is that of the first greater one, or behind all.
use Rattle.std.proofs.Common.{nat_lt, not, ap, ◌∙◌, length, subst, ◌≤◌, sym}
use Rattle.std.specs.Option.{unwrap_or}
use Rattle.std.proofs.lemmas.List.Sums.{prefix_len-le-length}
use Rattle.mdl_script.proofs.ListLemmas.{first-or-len}
use Rattle.mdl_script.proofs.play.index_of.Goals as goal

pub returns-clause-place : goal.returns-clause-place
returns-clause-place c =
    c.unwrap_or.ensures ∙ ap (λ found. unwrap_or found (length c.args.waiting.now)) c.first_greater.ensures ∙ first-or-len (λ other. nat_lt c.args.who other) c.args.waiting.now

pub returns-clause-inside : goal.returns-clause-inside
returns-clause-inside c =
    let place = c.unwrap_or.ensures ∙ ap (λ found. unwrap_or found (length c.args.waiting.now)) c.first_greater.ensures ∙ first-or-len (λ other. nat_lt c.args.who other) c.args.waiting.now in
    subst (λ n. n ≤ length c.args.waiting.now) (sym place) (prefix_len-le-length (λ other. not (nat_lt c.args.who other)) c.args.waiting.now)

-- The closure tells whose pairs stay.
use Rattle.std.proofs.Common.{◌∙◌, ◌++◌, ℕ, List, ap, rules}
use Rattle.std.specs.Prelude.{filter}
use Rattle.std.specs.FinSet as set
use Rattle.std.proofs.lemmas.Fn.{filter_same}
use Rattle.mdl_graph.specs.WaitsFor.{is_unsettled}
use Rattle.mdl_graph.proofs.settling.unsettled_waits.Goals as goal

pub returns : goal.returns
returns c =
    filter_same _ _ _ (λ x b f' k. search rules) _ _ c.retain.ensures.filtered
    ∙ ap (filter (λ (wait : ℕ × ℕ). is_unsettled (set.contains c.args.settled.now) wait.1))
    (c.in_ok-extend_from_slice.ensures.items ∙ ap (λ (before : List (ℕ × ℕ)). before ++ c.args.waits.now) c.new-left.ensures.items)

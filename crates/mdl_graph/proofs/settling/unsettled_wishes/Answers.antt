-- The closure tells whose requests stay.
use Rattle.std.proofs.Common.{◌∙◌, ◌++◌, List, ap, rules}
use Rattle.std.specs.Prelude.{filter}
use Rattle.std.specs.FinSet as set
use Rattle.std.proofs.lemmas.Fn.{filter_same}
use Rattle.mdl_graph.specs.declared.cycle.Member.{Member}
use Rattle.mdl_graph.specs.WaitsFor.{is_unsettled}
use Rattle.mdl_graph.proofs.settling.unsettled_wishes.Goals as goal

pub returns : goal.returns
returns c =
    filter_same _ _ _ (λ x b f' k. search rules) _ _ c.retain.ensures.filtered
    ∙ ap (filter (λ (wish : Member). is_unsettled (set.contains c.args.settled.now) wish.session))
    (c.in_ok-extend_from_slice.ensures.items ∙ ap (λ (before : List (Member)). before ++ c.args.wishes.now) c.new-left.ensures.items)

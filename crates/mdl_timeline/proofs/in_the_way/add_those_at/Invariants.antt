-- The sessions of the waiting tickets that were looked at.
use Rattle.std.proofs.Common.{◌&&◌, nat_eq, take}
use Rattle.std.specs.List.{list_any}
use Rattle.mdl_graph.specs.WaitsFor.{is_tied}
use Rattle.mdl_view.specs.ViewLaws.{nobody}
use Rattle.mdl_timeline.specs.Gains.{Gains}
use Rattle.mdl_timeline.proofs.in_the_way.add_those_at.Given as goal

abbrev pub invariant-loop-wish : goal.invariant-loop-wish
invariant-loop-wish l =
    Gains (λ session. list_any (λ wish. nat_eq wish.session l.who && is_tied nobody l.book session wish) (take l.wish-index l.waiting)) l.fn.those l.those

-- Over each next session the remaining length shrinks; the best way so far is the chosen one over those tried.
use Rattle.std.proofs.Common.{take}
use Rattle.std.specs.Option.{option_map}
use Rattle.mdl_space_trials.specs.base.deadlocks.Ways.{search_of, IsWayBy, IsChosenOf}
use Rattle.mdl_space_trials.proofs.base.deadlocks.plain.+plain_way.Given as goal

abbrev pub decreases-plain_way : goal.decreases-plain_way
decreases-plain_way l = l.most

abbrev pub invariant-loop-next : goal.invariant-loop-next
invariant-loop-next l =
    IsChosenOf (IsWayBy (search_of l.ties l.sessions l.path) l.path l.last l.most (take l.next-index l.sessions)) (option_map (λ way. way.items) l.best)

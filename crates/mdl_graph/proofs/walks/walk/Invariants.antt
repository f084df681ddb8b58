-- The rest of the walk.
use Rattle.std.proofs.Common.{◌≡◌, ◌<◌, ◌++◌, ◌-◌, length, map}
use Rattle.mdl_graph.specs.Searches.{waits_by, walk}
use Rattle.mdl_graph.specs.Graphs.{member_of}
use Rattle.mdl_graph.proofs.walks.walk.Given as goal

abbrev pub invariant-loop-step : goal.invariant-loop-step
invariant-loop-step l = record {
  number : l.session < 65536;
  weighed : l.session < length l.weights.items;
  rest : l.members.items ++ map (member_of l.wishes) (walk (waits_by l.waits l.stands) l.from l.levels (l.steps - l.step) l.session)
      ≡ map (member_of l.wishes) (walk (waits_by l.waits l.stands) l.from l.levels l.steps l.from);
}

-- The sessions from this one on are linked.
use Rattle.std.proofs.Common.{◌≡◌, length}
use Rattle.mdl_graph.specs.Searches.{AreChained}
use Rattle.mdl_graph.proofs.level_links.LevelLinks.new.Given as goal

abbrev pub invariant-loop-session : goal.invariant-loop-session
invariant-loop-session l = record {
  len : length l.firsts.items ≡ l.steps;
  chained : AreChained l.levels l.firsts.items l.afters.items l.session;
}

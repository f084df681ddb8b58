-- The events so far and those of the turns that are left make up the whole, at most as many turns as are left.
use Rattle.std.proofs.Common.{◌≡◌, ◌-◌, ◌++◌, [], flat_map}
use Rattle.mdl_script.specs.Plays.{IsManned, world_of}
use Rattle.mdl_script.specs.Worlds.{continuing_settled, most_turns}
use Rattle.mdl_timeline.specs.Moments.{turn_events, turns_after}
use Rattle.mdl_timeline.proofs.moments.settle.Given as goal

abbrev pub invariant-loop-turn : goal.invariant-loop-turn
invariant-loop-turn l = record {
  events : l.events.items ++ flat_map (turn_events []) (turns_after (most_turns - l._turn) (world_of l.play))
      ≡ l.fn.events.items ++ flat_map (turn_events []) (turns_after most_turns (world_of l.fn.play));
  left : (continuing_settled (most_turns - l._turn) (world_of l.play)).world ≡ (continuing_settled most_turns (world_of l.fn.play)).world;
  manned : IsManned l.play;
}

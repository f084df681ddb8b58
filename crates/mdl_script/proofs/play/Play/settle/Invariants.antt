-- What was told and what is still to be told make up the whole, at most as many turns as are left.
use Rattle.std.proofs.Common.{◌≡◌, ◌-◌, ◌++◌}
use Rattle.mdl_script.specs.Plays.{IsManned, world_of}
use Rattle.mdl_script.specs.Worlds.{continuing_settled, most_turns}
use Rattle.mdl_script.proofs.play.Play.settle.Given as goal

abbrev pub invariant-loop-turn : goal.invariant-loop-turn
invariant-loop-turn l =
    let rest = continuing_settled (most_turns - l._turn) (world_of l.self) in
    let whole = continuing_settled most_turns (world_of l.fn.self) in
    record {
      told : l.told.items ++ rest.told ≡ l.fn.told.items ++ whole.told;
      left : rest.world ≡ whole.world;
      manned : IsManned l.self;
    }

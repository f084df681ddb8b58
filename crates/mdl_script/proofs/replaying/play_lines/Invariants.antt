-- What was told and what is still to be told make up the whole.
use Rattle.std.proofs.Common.{◌≡◌, ◌++◌, [], drop}
use Rattle.std.specs.String.{string_bytes}
use Rattle.mdl_script.specs.Plays.{IsManned, world_of}
use Rattle.mdl_script.specs.Texts.{told_text}
use Rattle.mdl_script.specs.Worlds.{lines_played, script_played}
use Rattle.mdl_script.proofs.replaying.play_lines.Given as goal

abbrev pub invariant-loop-line : goal.invariant-loop-line
invariant-loop-line l =
    let rest = lines_played (drop l.line-index l.lines) (world_of l.play) in
    let whole = script_played l.lines in
    record {
      told : string_bytes l.out ++ told_text rest.told ≡ string_bytes l.fn.out ++ told_text whole.told;
      left : rest.world ≡ whole.world;
      manned : IsManned l.play;
      none : l.told.items ≡ [];
    }

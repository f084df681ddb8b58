-- The sessions so far are there.
use Rattle.std.proofs.Common.{◌≡◌, ◌-◌, map}
use Rattle.std.specs.List.{range_with_len}
use Rattle.mdl_script.specs.Plays.{new_player}
use Rattle.mdl_script.proofs.play.new_players.Given as goal

abbrev pub invariant-loop-who : goal.invariant-loop-who
invariant-loop-who l = l.players.items ≡ map new_player (range_with_len 1 (l.who - 1))

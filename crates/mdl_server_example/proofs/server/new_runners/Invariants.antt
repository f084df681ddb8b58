-- The runners so far are there.
use Rattle.std.proofs.Common.{◌≡◌, map}
use Rattle.std.specs.List.{range_with_len}
use Rattle.mdl_server_example.specs.Servers.{new_session}
use Rattle.mdl_server_example.proofs.server.new_runners.Given as goal

abbrev pub invariant-loop-index : goal.invariant-loop-index
invariant-loop-index l = l.runners.items ≡ map new_session (range_with_len 1 l.index)

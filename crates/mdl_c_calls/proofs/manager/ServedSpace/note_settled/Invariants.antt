-- The waits of the sessions so far are told, and the manager is as it was.
use Rattle.std.proofs.Common.{◌≡◌, ◌≤◌}
use Rattle.mdl_c_calls.specs.Listings.{noted_to}
use Rattle.mdl_c_calls.specs.Managers.{session_count_of}
use Rattle.mdl_c_calls.proofs.manager.ServedSpace.note_settled.Given as goal

abbrev pub invariant-loop-index : goal.invariant-loop-index
invariant-loop-index l = record {
  written : l.told ≡ noted_to l.fn.self l.initial.told l.index;
  within : l.index ≤ session_count_of l.fn.self;
  same : l.self ≡ l.fn.self;
}

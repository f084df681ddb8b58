-- The sessions so far are told, and the manager is as it was.
use Rattle.std.proofs.Common.{◌≡◌, ◌≤◌, length}
use Rattle.mdl_c_parts.specs.Rows.{room_written}
use Rattle.mdl_c_calls.specs.Listings.{is_newly_settled}
use Rattle.mdl_c_calls.specs.Managers.{session_count_of}
use Rattle.mdl_c_calls.proofs.SettledLemmas.{picked_to}
use Rattle.mdl_c_calls.proofs.manager.ServedSpace.write_woken.Given as goal

abbrev pub invariant-loop-index : goal.invariant-loop-index
invariant-loop-index l = record {
  written : l.room ≡ room_written (picked_to (is_newly_settled l.fn.self l.told) l.index) l.initial.room;
  counted : l.count ≡ length (picked_to (is_newly_settled l.fn.self l.told) l.index);
  few : l.count ≤ l.index;
  within : l.index ≤ session_count_of l.fn.self;
  same : l.self ≡ l.fn.self;
}

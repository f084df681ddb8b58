-- So much was put there.
use Rattle.std.proofs.Common.{◌≡◌, ◌++◌, take}
use Rattle.std.specs.List.{flat_map}
use Rattle.mdl_view_text.specs.Why.{joint_text}
use Rattle.mdl_view_text.proofs.why.push_each_joint.Given as goal

abbrev pub invariant-loop-wait : goal.invariant-loop-wait
invariant-loop-wait l = l.out.items ≡ l.fn.out.items ++ flat_map (joint_text l.names l.ways) (take l.wait-index l.waits)

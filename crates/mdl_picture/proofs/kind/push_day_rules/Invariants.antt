-- So many of the rules.
use Rattle.std.proofs.Common.{◌≡◌, ◌++◌, take}
use Rattle.std.specs.List.{flat_map}
use Rattle.mdl_picture.specs.Kinds.{day_rule}
use Rattle.mdl_picture.proofs.kind.push_day_rules.Given as goal

abbrev pub invariant-loop-kind : goal.invariant-loop-kind
invariant-loop-kind l = l.out.items ≡ l.fn.out.items ++ flat_map day_rule (take l.kind-index l.kinds)

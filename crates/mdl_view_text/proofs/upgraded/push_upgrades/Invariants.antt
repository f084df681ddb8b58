-- So much was put there.
use Rattle.std.proofs.Common.{◌≡◌, ◌++◌, take}
use Rattle.std.specs.List.{flat_map}
use Rattle.mdl_view_text.specs.Upgraded.{upgrade_line}
use Rattle.mdl_view_text.proofs.upgraded.push_upgrades.Given as goal

abbrev pub invariant-loop-upgrade : goal.invariant-loop-upgrade
invariant-loop-upgrade l = l.out.items ≡ l.fn.out.items ++ flat_map (upgrade_line l.names) (take l.upgrade-index l.upgrades)

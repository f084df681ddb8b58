-- So much was put there.
use Rattle.std.proofs.Common.{◌≡◌, ◌++◌, take}
use Rattle.std.specs.List.{flat_map}
use Rattle.mdl_page.specs.Pages.{behind_comma}
use Rattle.mdl_page.proofs.data.push_behind_commas.Given as goal

abbrev pub invariant-loop-facts : goal.invariant-loop-facts
invariant-loop-facts l = l.out.items ≡ l.fn.out.items ++ flat_map behind_comma (take l.facts-index l.lines)

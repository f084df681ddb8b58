-- The waits so far.
use Rattle.std.proofs.Common.{◌≡◌, map, take}
use Rattle.std.specs.List.{All}
use Rattle.mdl_view_text.specs.Findings.{Needs, wait_of}
use Rattle.mdl_view_text.proofs.findings.blocked.Given as goal

abbrev pub invariant-loop-at : goal.invariant-loop-at
invariant-loop-at l = (map wait_of l.found.items ≡ take l.at-index l.waits) × All (Needs l.locks) l.found.items

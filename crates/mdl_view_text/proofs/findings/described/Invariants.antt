-- The ways so far.
use Rattle.std.proofs.Common.{◌≡◌, map, take}
use Rattle.std.specs.List.{All}
use Rattle.mdl_view_text.specs.Findings.{Follows, way_of}
use Rattle.mdl_view_text.proofs.findings.described.Given as goal

abbrev pub invariant-loop-way : goal.invariant-loop-way
invariant-loop-way l = (map way_of l.found.items ≡ take l.way-index l.ways) × All (Follows l.locks) l.found.items

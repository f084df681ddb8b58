-- Those found so far.
use Rattle.std.proofs.Common.{◌≡◌, filter, take}
use Rattle.mdl_view_text.specs.Findings.{is_wanted}
use Rattle.mdl_view_text.proofs.findings.wanted.Given as goal

abbrev pub invariant-loop-at : goal.invariant-loop-at
invariant-loop-at l = l.found.items ≡ filter (is_wanted l.locks) (take l.at-index l.held)

-- Those counted, and those behind.
use Rattle.std.proofs.Common.{◌≡◌, ◌+◌, drop}
use Rattle.mdl_view_text.specs.Findings.{waits_among}
use Rattle.mdl_view_text.proofs.findings.waits_among.Given as goal

abbrev pub invariant-loop-lock : goal.invariant-loop-lock
invariant-loop-lock l = l.count + waits_among (drop l.lock-index l.locks) ≡ waits_among l.locks

-- Each next place is nearer to the last.
use Rattle.std.proofs.Common.{◌+◌, ◌-◌}
use Rattle.mdl_visits.proofs.calls.audit.+audit_from.Given as goal

abbrev pub decreases-audit_from : goal.decreases-audit_from
decreases-audit_from g l = l.last + 1 - l.place

-- Each next place is nearer to the last.
use Rattle.std.proofs.Common.{◌+◌, ◌-◌}
use Rattle.mdl_visits.proofs.calls.search.+search_from.Given as goal

abbrev pub decreases-search_from : goal.decreases-search_from
decreases-search_from g l = l.last + 1 - l.place

-- As many grants at most as there are waiters.
use Rattle.mdl_system.proofs.GrantingRuns.{ends}
use Rattle.mdl_system.proofs.laws.granting_comes_to_an_end.Goals as goal

pub returns : goal.returns
returns g c = ends

-- The relation is what the test by rows tells.
use Rattle.std.proofs.Common.{rules}
use Rattle.mdl_key.proofs.MatrixLemmas.{at_least-exact}
use Rattle.mdl_key.proofs.strength.at_least.Goals as goal

pub returns-clause-relation : goal.returns-clause-relation
returns-clause-relation c = search (rules, at_least-exact)

-- One who waits more stands against the row.
use Rattle.std.proofs.Common.{arith}
use Rattle.std.proofs.lemmas.Grind.{common_steps}
use Rattle.mdl_graph.proofs.rows.stand_waiters.Goals as goal

pub loop-pending-preserved : goal.loop-pending-preserved
loop-pending-preserved c = grind (arith, common_steps)

pub returns-in_err-stand_once-clause-len : goal.returns-in_err-stand_once-clause-len
returns-in_err-stand_once-clause-len c = grind (arith, common_steps)

pub returns-in_err-stand_once-clause-kept : goal.returns-in_err-stand_once-clause-kept
returns-in_err-stand_once-clause-kept c = grind (arith, common_steps)

pub returns-clause-stands : goal.returns-clause-stands
returns-clause-stands c = grind (arith, common_steps)

pub returns-clause-len : goal.returns-clause-len
returns-clause-len c = c.loop-pending.invariant.len

pub returns-clause-kept : goal.returns-clause-kept
returns-clause-kept c = c.loop-pending.invariant.kept

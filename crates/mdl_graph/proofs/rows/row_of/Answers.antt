-- A row that is made has those who stand against the wish.
use Rattle.std.proofs.Common.{arith}
use Rattle.std.proofs.lemmas.Grind.{common_steps}
use Rattle.mdl_graph.proofs.rows.row_of.Goals as goal

pub returns-in-Some-clause-fresh : goal.returns-in-Some-clause-fresh
returns-in-Some-clause-fresh c = c.requires.fresh

pub returns-in-Some-clause-modes : goal.returns-in-Some-clause-modes
returns-in-Some-clause-modes c = c.requires.modes

pub returns-clause-ranks_len : goal.returns-clause-ranks_len
returns-clause-ranks_len c = grind (arith, common_steps)

pub returns-clause-stands_len : goal.returns-clause-stands_len
returns-clause-stands_len c = grind (arith, common_steps)

pub returns-clause-ranks_kept : goal.returns-clause-ranks_kept
returns-clause-ranks_kept c = grind (arith, common_steps)

pub returns-clause-stands_kept : goal.returns-clause-stands_kept
returns-clause-stands_kept c = grind (arith, common_steps)

pub returns-in_err-push-clause-stands_len : goal.returns-in_err-push-clause-stands_len
returns-in_err-push-clause-stands_len c = grind (arith, common_steps)

pub returns-in_err-push-clause-stands_kept : goal.returns-in_err-push-clause-stands_kept
returns-in_err-push-clause-stands_kept c = grind (arith, common_steps)

pub returns-clause-fresh : goal.returns-clause-fresh
returns-clause-fresh c = grind (arith, common_steps)

pub returns-clause-modes : goal.returns-clause-modes
returns-clause-modes c = grind (arith, common_steps)

pub returns-clause-same : goal.returns-clause-same
returns-clause-same c = grind (arith, common_steps)

pub returns-clause-row : goal.returns-clause-row
returns-clause-row c = grind (arith, common_steps)

-- The searches run as said, and then the session waits, or its wait is given up.
use Rattle.mdl_context.proofs.SoughtLemmas.{run-waiting, run-refused}
use Rattle.mdl_context.proofs.asking.wait_on.Goals as goal

pub returns-in-Ok-clause-run : goal.returns-in-Ok-clause-run
returns-in-Ok-clause-run g c = run-waiting g.S.LockSpace.joins c.args.who c.args.number c.in-Ok.searched _ _ (rw c.in-Ok.is at c.seek.ensures.run)

pub returns-in-Err-clause-run : goal.returns-in-Err-clause-run
returns-in-Err-clause-run g c =
    run-refused g.S.LockSpace.joins c.args.who c.args.number c.in-Err.refusal _ _ _ (rw c.in-Err.is at c.seek.ensures.run) c.abandon.ensures.run

pub returns-in-Err-clause-refused : goal.returns-in-Err-clause-refused
returns-in-Err-clause-refused g c = rw c.in-Err.is at c.seek.ensures.refused

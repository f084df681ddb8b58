-- The wait that was begun is taken back, and the book refused the ticket unchanged.
use Rattle.mdl_space.proofs.granting.queue.Goals as goal

pub returns-in-Err-clause-unchanged : goal.returns-in-Err-clause-unchanged
returns-in-Err-clause-unchanged c =
    (c.unbegin_wait.ensures _ _ _ c.requires.idle c.in_ok-begin_wait.ensures.begun, c.in-Err.ensures.unchanged)

-- What is found of ways and of waits.
use Rattle.std.proofs.Common.{◌≡◌, List, length, map, take}
use Rattle.mdl_view.specs.declared.at_lock.AtLock.{AtLock}
use Rattle.mdl_view.specs.Locks.{LockView}
use Rattle.mdl_view.specs.Ways.{blockers_of}
use Rattle.mdl_view_text.specs.declared.findings.BlockedWait.{BlockedWait}
use Rattle.mdl_view_text.specs.Findings.{Needs, act_against, lock_at, most_found}

-- a wait at a lock needs what its lock says
pub needs_there : (locks : List LockView) (lock : LockView) (at : AtLock) (wait : BlockedWait) → lock ≡ lock_at locks at.lock → wait.at ≡ at
    → wait.blockers ≡ length (blockers_of lock at.ticket)
    → wait.acts.items ≡ map (act_against lock at.ticket) (take most_found (blockers_of lock at.ticket)) → Needs locks wait
needs_there locks lock at wait there same count acts =
    record {
      count = rw (same, ← there) count;
      acts = rw (same, ← there) acts;
    }

-- The ghost members of the trait for the space of one thread: the sessions that it speaks for, what a session has and knows there, and
-- the others.
use Rattle.mdl_core.specs.Words.{Core}
use Rattle.mdl_calls.specs.declared.lock_space.LockSpace.{Ghosts}
use Rattle.mdl_space.specs.contracts.core_space.calls.CoreSpaceLockSpace.TheImpl.{ghosts}

-- the ghost members that the space of one thread gives the trait
abbrev pub core_space : Ghosts Core
core_space = ghosts

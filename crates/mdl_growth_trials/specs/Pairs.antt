-- Two sessions over the lock space of one thread.
use Rattle.std.specs.Prelude.{◌≡◌}
use Rattle.mdl_defs.specs.Caches.{CacheView}
use Rattle.mdl_core.specs.Words.{Core}
use Rattle.mdl_space.specs.CoreMembers.{core_space}
use Rattle.mdl_context.specs.Contexts.{ContextView, Attends}
use Rattle.mdl_stmt.specs.Attendance.{AttendsWith}

-- the contexts are those of the sessions 1 and 2, each with its cache, and the space serves both
pub record AreRunners (space : Core) (first : ContextView) (first_cache : CacheView) (second : ContextView) (second_cache : CacheView) : Type 0 where
  pub one : first.who ≡ 1
  pub two : second.who ≡ 2
  pub first_served : AttendsWith core_space space first first_cache
  pub second_served : AttendsWith core_space space second second_cache

-- the contexts are those of the sessions 1 and 2, and the space serves both
pub record AreServed (space : Core) (first second : ContextView) : Type 0 where
  pub one : first.who ≡ 1
  pub two : second.who ≡ 2
  pub first_served : Attends core_space space first
  pub second_served : Attends core_space space second

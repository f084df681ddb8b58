-- A session that executes statements, and a second session, over the lock space of one thread.
use Rattle.std.specs.Prelude.{◌≡◌}
use Rattle.mdl_defs.specs.Caches.{CacheView}
use Rattle.mdl_core.specs.Words.{Core, SpeaksFor}
use Rattle.mdl_space.specs.CoreMembers.{core_space}
use Rattle.mdl_context.specs.Contexts.{ContextView}
use Rattle.mdl_stmt.specs.Attendance.{AttendsWith}

-- the context and the cache are those of session 1, and the space serves session 1 with them, and session 2
pub record ServesBoth (space : Core) (context : ContextView) (cache : CacheView) : Type 0 where
  pub one : context.who ≡ 1
  pub served : AttendsWith core_space space context cache
  pub speaks : SpeaksFor space 2

-- What a caller shows of sessions over the space of one thread.
use Rattle.std.proofs.Common.{◌≡◌, ◌≢◌, ℕ, [], None, ap, option_map}
use Rattle.std.proofs.lemmas.List.Elements.{All-nil}
use Rattle.mdl_defs.specs.Caches.{CacheView}
use Rattle.mdl_calls.specs.Words.{Answer, Call, HasNothing}
use Rattle.mdl_core.specs.Words.{Core, SpeaksFor, locks_at}
use Rattle.mdl_space.specs.CoreMembers.{core_space}
use Rattle.mdl_core.specs.CoreJoins.{Joins}
use Rattle.mdl_core.proofs.CallLaws.{core-keeps}
use Rattle.mdl_core.proofs.CoreSound.{calls_keep-sound}
use Rattle.mdl_context.specs.Contexts.{ContextView, Attends, LeavesOthers, wish_there}
use Rattle.mdl_context.proofs.AttendLemmas.{attends-same}
use Rattle.mdl_stmt.specs.Attendance.{AttendsWith}
use Rattle.mdl_stmt.proofs.AttendanceLemmas.{attends-besides, attends-empty}

-- behind any call the space goes on to speak for the sessions that it spoke for
pub still_speaks : (before after : Core) (call : Call) (answer : Answer) (who : ℕ) → SpeaksFor before who → Joins before call answer after
    → SpeaksFor after who
still_speaks = core-keeps calls_keep-sound

-- the space attends to a new context of a session that has nothing
pub attends_new : (space : Core) (who : ℕ) (x : ContextView) → x ≡ record { who = who; kept = []; known = []; wait = None } → SpeaksFor space who
    → HasNothing (locks_at space who) → Attends core_space space x
attends_new space who x new speaks nothing =
    rw new (record { speaks = speaks; serves = record { held = nothing.0; wait = ap (option_map wish_there) nothing.1 }; known = All-nil _; pinned = All-nil _; places = All-nil _; wish = tt })

-- the space attends to a session's context as before, where another session has made calls
pub still_attends : (before after : Core) (x : ContextView) (who : ℕ) → LeavesOthers core_space who before after → x.who ≢ who
    → Attends core_space before x → Attends core_space after x
still_attends before after x who by other attends =
    let kept = by.0 x.who other attends.speaks in attends-same before after x attends kept.2 kept.0 kept.1

-- the same where the session has a cache, which keeps nothing at first
pub attends_empty : (space : Core) (x : ContextView) (cache : CacheView) → cache.kept ≡ [] → Attends core_space space x → AttendsWith core_space space x cache
attends_empty = attends-empty core_space

-- and where another session has made calls
pub still_attends_with : (before after : Core) (x : ContextView) (cache : CacheView) (who : ℕ) → LeavesOthers core_space who before after → x.who ≢ who
    → AttendsWith core_space before x cache → AttendsWith core_space after x cache
still_attends_with = attends-besides core_space

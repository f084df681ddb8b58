-- Two sessions over one lock space, of which one makes calls.
use Rattle.std.proofs.Common.{◌≡◌, ◌≢◌, ℕ, [], None, refl, ap, ◌∙◌, arith}
use Rattle.std.proofs.lemmas.List.Elements.{All-nil}
use Rattle.mdl_defs.specs.Caches.{CacheView}
use Rattle.std.specs.Option.{option_map}
use Rattle.mdl_calls.specs.Words.{HasNothing}
use Rattle.mdl_calls.specs.declared.lock_space.LockSpace.{Ghosts}
use Rattle.mdl_core.specs.Words.{Core, SpeaksFor, locks_at}
use Rattle.mdl_space.specs.CoreMembers.{core_space}
use Rattle.mdl_context.specs.Contexts.{ContextView, Attends, LeavesOthers, wish_there}
use Rattle.mdl_context.proofs.AttendLemmas.{attends-same}
use Rattle.mdl_stmt.specs.Attendance.{AttendsWith}
use Rattle.mdl_stmt.proofs.AttendanceLemmas.{attends-besides, attends-empty}
use Rattle.mdl_growth_trials.specs.Pairs.{AreRunners, AreServed}

-- a new context of a session that has nothing
pub fresh : {S : Type 0} (members : Ghosts S) (space : S) (who : ℕ) (x : ContextView) → x ≡ record { who = who; kept = []; known = []; wait = None }
    → members.speaks_for space who → HasNothing (members.own space who) → Attends members space x
fresh members space who x new speaks nothing =
    rw new (record { speaks = speaks; serves = record { held = nothing.0; wait = ap (option_map wish_there) nothing.1 }; known = All-nil _; pinned = All-nil _; places = All-nil _; wish = tt })

-- the first has made a statement
pub first_runs : (before after : Core) (first second x : ContextView) (c d y : CacheView) → AreRunners before first c second d → x.who ≡ first.who
    → AttendsWith core_space after x y → LeavesOthers core_space first.who before after → AreRunners after x y second d
first_runs before after first second x c d y two who attends by = record {
  one = who ∙ two.one;
  two = two.two;
  first_served = attends;
  second_served = attends-besides core_space before after second d first.who by (λ e. omega (arith, e, two.one, two.two)) two.second_served;
}

-- the second has made one
pub second_runs : (before after : Core) (first second x : ContextView) (c d y : CacheView) → AreRunners before first c second d → x.who ≡ second.who
    → AttendsWith core_space after x y → LeavesOthers core_space second.who before after → AreRunners after first c x y
second_runs before after first second x c d y two who attends by = record {
  one = two.one;
  two = who ∙ two.two;
  first_served = attends-besides core_space before after first c second.who by (λ e. omega (arith, e, two.one, two.two)) two.first_served;
  second_served = attends;
}

-- neither has anything, and nothing is cached
pub fresh_runners : (space : Core) (first second : ContextView) (c d : CacheView) → first ≡ record { who = 1; kept = []; known = []; wait = None }
    → second ≡ record { who = 2; kept = []; known = []; wait = None } → c.kept ≡ [] → d.kept ≡ [] → SpeaksFor space 1 → SpeaksFor space 2
    → HasNothing (locks_at space 1) → HasNothing (locks_at space 2) → AreRunners space first c second d
fresh_runners space first second c d is_first is_second none nothing speaks_first speaks_second first_own second_own = record {
  one = rw is_first refl;
  two = rw is_second refl;
  first_served = attends-empty core_space space first c none (fresh core_space space 1 first is_first speaks_first first_own);
  second_served = attends-empty core_space space second d nothing (fresh core_space space 2 second is_second speaks_second second_own);
}

-- ---- contexts alone

-- the session of a context is attended to after the other one's call
still_attended : (before after : Core) (context : ContextView) (who : ℕ) → LeavesOthers core_space who before after → context.who ≢ who
    → Attends core_space before context → Attends core_space after context
still_attended before after context who leaves other attends =
    let kept = leaves.0 context.who other attends.speaks in attends-same before after context attends kept.2 kept.0 kept.1

-- the first has made a call
pub first_calls : (before after : Core) (first second x : ContextView) → AreServed before first second → x.who ≡ first.who
    → Attends core_space after x → LeavesOthers core_space first.who before after → AreServed after x second
first_calls before after first second x two who attends by = record {
  one = who ∙ two.one;
  two = two.two;
  first_served = attends;
  second_served = still_attended before after second first.who by (λ e. omega (arith, e, two.one, two.two)) two.second_served;
}

-- the second has made one
pub second_calls : (before after : Core) (first second x : ContextView) → AreServed before first second → x.who ≡ second.who
    → Attends core_space after x → LeavesOthers core_space second.who before after → AreServed after first x
second_calls before after first second x two who attends by = record {
  one = two.one;
  two = who ∙ two.two;
  first_served = still_attended before after first second.who by (λ e. omega (arith, e, two.one, two.two)) two.first_served;
  second_served = attends;
}

-- neither has anything
pub fresh_served : (space : Core) (first second : ContextView) → first ≡ record { who = 1; kept = []; known = []; wait = None }
    → second ≡ record { who = 2; kept = []; known = []; wait = None } → SpeaksFor space 1 → SpeaksFor space 2 → HasNothing (locks_at space 1)
    → HasNothing (locks_at space 2) → AreServed space first second
fresh_served space first second is_first is_second speaks_first speaks_second first_own second_own = record {
  one = rw is_first refl;
  two = rw is_second refl;
  first_served = fresh core_space space 1 first is_first speaks_first first_own;
  second_served = fresh core_space space 2 second is_second speaks_second second_own;
}

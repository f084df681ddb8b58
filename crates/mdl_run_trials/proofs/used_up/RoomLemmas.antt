-- Two sessions over one lock space, of which one makes calls.
use Rattle.std.proofs.Common.{◌≡◌, ℕ, [], None, Some, refl, ap, sym, ◌∙◌, option_map, arith}
use Rattle.std.proofs.lemmas.List.Elements.{All-nil}
use Rattle.mdl_defs.specs.Caches.{CacheView}
use Rattle.mdl_calls.specs.Words.{Answer, Call, HasNothing, caller}
use Rattle.mdl_calls.specs.declared.lock_space.LockSpace.{Ghosts}
use Rattle.mdl_calls.specs.MemberLaws.{LawsOf}
use Rattle.mdl_core.specs.Words.{Core, SpeaksFor, locks_at}
use Rattle.mdl_space.specs.CoreMembers.{core_space}
use Rattle.mdl_context.specs.Contexts.{ContextView, Attends, LeavesOthers, wish_there}
use Rattle.mdl_stmt.specs.Attendance.{AttendsWith}
use Rattle.mdl_stmt.proofs.AttendanceLemmas.{attends-besides, attends-empty}
use Rattle.mdl_run_trials.specs.used_up.Rooms.{ServesBoth}

-- session 1 has made calls
pub first_then : (before after : Core) (context x : ContextView) (cache y : CacheView) → ServesBoth before context cache → x.who ≡ context.who
    → AttendsWith core_space after x y → LeavesOthers core_space context.who before after → ServesBoth after x y
first_then before after context x cache y both who attends by = record {
  one = who ∙ both.one;
  served = attends;
  speaks = (by.0 2 (λ e. omega (arith, e, both.one)) both.speaks).0;
}

-- session 2 has made a call
pub other_then : (before after : Core) (context : ContextView) (cache : CacheView) → ServesBoth before context cache → SpeaksFor after 2
    → LeavesOthers core_space 2 before after → ServesBoth after context cache
other_then before after context cache both speaks by = record {
  one = both.one;
  served = attends-besides core_space before after context cache 2 by (λ e. omega (arith, e, both.one)) both.served;
  speaks = speaks;
}

-- a new context of a session that has nothing
pub attends-new : (space : Core) (who : ℕ) (x : ContextView) → x ≡ record { who = who; kept = []; known = []; wait = None } → SpeaksFor space who
    → HasNothing (locks_at space who) → Attends core_space space x
attends-new space who x new speaks nothing =
    rw new (record { speaks = speaks; serves = record { held = nothing.0; wait = ap (option_map wish_there) nothing.1 }; known = All-nil _; pinned = All-nil _; places = All-nil _; wish = tt })

-- neither session has anything, and nothing is cached
pub fresh_both : (space : Core) (context : ContextView) (cache : CacheView) → context ≡ record { who = 1; kept = []; known = []; wait = None }
    → cache.kept ≡ [] → SpeaksFor space 1 → SpeaksFor space 2 → HasNothing (locks_at space 1) → ServesBoth space context cache
fresh_both space context cache new empty speaks speaks_other nothing = record {
  one = rw new refl;
  served = attends-empty core_space space context cache empty (attends-new space 1 context new speaks nothing);
  speaks = speaks_other;
}

-- a call that is no session's own leaves each as it was
pub leaves-nobody : {S : Type 0} (members : Ghosts S) → LawsOf members → (a b : S) (call : Call) (answer : Answer) (who : ℕ) → caller call ≡ None
    → members.joins a call answer b → LeavesOthers members who a b
leaves-nobody members laws a b call answer who made step = (
  λ w other speaks. (
    laws.keeps a b call answer w speaks step,
    laws.others a b call answer w speaks (not-own w) step,
    λ place key known. laws.remembers a b call answer w place key speaks (λ e _. not-own w (ap caller e)) step known,
  ),
  λ w speaks. (laws.keeps a b call answer w speaks step, λ place standing met. laws.met_stays a b call answer w place standing speaks step met),
) where
  not-own : (w : ℕ) → caller call ≡ Some w → ⊥
  not-own w e = let none : Some w ≡ None = sym e ∙ made in cc

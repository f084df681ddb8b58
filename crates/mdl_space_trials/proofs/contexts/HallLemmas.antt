-- Contexts of several sessions over the lock space of one thread.
use Rattle.std.proofs.Common.{◌≡◌, ◌≢◌, ℕ, zero, suc, ◌<◌, ◌≤◌, ◌+◌, ◌-◌, List, [], ◌∷◌, length, get_or, set, Some, None, refl, sym, ap, ◌∙◌, subst, option_map, arith}
use Rattle.std.proofs.lemmas.List.Elements.{All-nil}
use Rattle.mdl_core.specs.Words.{Core, SpeaksFor, locks_at}
use Rattle.mdl_space.specs.CoreMembers.{core_space}
use Rattle.mdl_calls.specs.Words.{Answer, Call, HasNothing, caller}
use Rattle.mdl_calls.specs.declared.lock_space.LockSpace.{Ghosts}
use Rattle.mdl_calls.specs.MemberLaws.{LawsOf}
use Rattle.mdl_context.specs.Contexts.{ContextView, Attends, LeavesOthers, wish_there}
use Rattle.mdl_space_trials.specs.contexts.Halls.{AreServed}
use Rattle.mdl_context.proofs.AttendLemmas.{attends-same}

-- each of them is of its session, and attended to
pub served_at : (space : Core) (first i : ℕ) (xs : List ContextView) (d : ContextView) → AreServed space first xs → i < length xs
    → ((get_or xs i d).who ≡ first + i) × Attends core_space space (get_or xs i d)
served_at space first i [] d served inside = absurd (omega arith)
served_at space first zero (x ∷ xs) d served inside = (served.0 ∙ omega arith, served.1)
served_at space first (suc i) (x ∷ xs) d served inside =
    let rest = served_at space (first + 1) i xs d served.2 (omega arith) in (rest.0 ∙ omega arith, rest.1)

-- whoever else makes a call, the context is attended to
pub attended_over : {S : Type 0} (members : Ghosts S) → LawsOf members
    → (a b : S) (call : Call) (answer : Answer) (x : ContextView) → (caller call ≡ Some x.who → ⊥) → members.joins a call answer b → Attends members a x → Attends members b x
attended_over members laws a b call answer x other step attends =
    attends-same a b x attends (λ place key there. laws.remembers a b call answer x.who place key attends.speaks (λ e _. other (ap caller e)) step there)
    (laws.keeps a b call answer x.who attends.speaks step) (laws.others a b call answer x.who attends.speaks other step)

-- one of the others has made a call
still_attended : (before after : Core) (x : ContextView) (who : ℕ) → LeavesOthers core_space who before after → x.who ≢ who
    → Attends core_space before x → Attends core_space after x
still_attended before after x who leaves other attends =
    let kept = leaves.0 x.who other attends.speaks in attends-same before after x attends kept.2 kept.0 kept.1

-- contexts of later sessions
still_served : (before after : Core) (first who : ℕ) (xs : List ContextView) → LeavesOthers core_space who before after → who < first
    → AreServed before first xs → AreServed after first xs
still_served before after first who [] leaves later served = tt
still_served before after first who (x ∷ xs) leaves later served =
    (served.0, still_attended before after x who leaves (λ e. omega (arith, served.0, e)) served.1, still_served before after (first + 1) who xs leaves (omega arith) served.2)

-- one of them has made a call
pub served_then : (before after : Core) (first i : ℕ) (xs : List ContextView) (x : ContextView) → AreServed before first xs → i < length xs
    → x.who ≡ first + i → Attends core_space after x → LeavesOthers core_space (first + i) before after → AreServed after first (set xs i x)
served_then before after first i [] x served inside who attends leaves = absurd (omega arith)
served_then before after first zero (y ∷ ys) x served inside who attends leaves =
    (who ∙ omega arith, attends, still_served before after (first + 1) (first + 0) ys leaves (omega arith) served.2)
served_then before after first (suc i) (y ∷ ys) x served inside who attends leaves =
    let same : first + 1 + i ≡ first + suc i = omega arith in (
      served.0,
      still_attended before after y (first + suc i) leaves (λ e. omega (arith, served.0, e)) served.1,
      served_then before after (first + 1) i ys x served.2 (omega arith) (who ∙ sym same) attends
          (subst (λ n. LeavesOthers core_space n before after) (sym same) leaves),
    )

-- a new context of a session that has nothing
pub fresh : (space : Core) (who : ℕ) (x : ContextView) → x ≡ record { who = who; kept = []; known = []; wait = None } → SpeaksFor space who
    → HasNothing (locks_at space who) → (x.who ≡ who) × Attends core_space space x
fresh space who x new speaks nothing =
    rw new (refl, record { speaks = speaks; serves = record { held = nothing.0; wait = ap (option_map wish_there) nothing.1 }; known = All-nil _; pinned = All-nil _; places = All-nil _; wish = tt })

-- so the space speaks for their sessions
pub speaks_for_each : (space : Core) (who : ℕ) (xs : List ContextView) → AreServed space 1 xs → 1 ≤ who → who ≤ length xs → SpeaksFor space who
speaks_for_each space who xs served least most =
    let no_context : ContextView = record { who = 0; kept = []; known = []; wait = None } in
    let at = served_at space 1 (who - 1) xs no_context served (omega (arith, least, most)) in
    subst (λ w. SpeaksFor space w) (at.0 ∙ omega (arith, least)) at.1.speaks

-- Deadlocks come to be only through sessions that begin to wait, and searches end these.
use Rattle.std.proofs.Common.{◌≡◌, ℕ, zero, suc, Bool, true, false, ◌||◌, ◌==◌, inl, inr, List, [], ◌∷◌, Option, refl, sym, ap, subst, ◌∙◌}
use Rattle.std.proofs.Math.Bool.{or-false, and-not_self}
use Rattle.std.proofs.lemmas.Bool.{false≢true}
use Rattle.mdl_key.specs.Keys.{KeyName}
use Rattle.mdl_defs.specs.declared.change.Change.{Change}
use Rattle.mdl_calls.specs.declared.answers.TimedOut.TheVariants.{ByThisCall}
use Rattle.mdl_calls.specs.Words.{Answer, Done, Granted, Waits, Victim_is, Timed_out, Lost, Has_killed, Changed, Upgraded, Call, Try_now, Begin_wait, Search, Settle_timeout, End_wait, Kill, Release, Clone_ticket, Upgrade_now, Merge, Downgrade, Change_definition, Runs, Over, seeking}
use Rattle.mdl_core.specs.CoreJoins.{Joins, SpeaksFor}
use Rattle.mdl_core.specs.CoreLaws.{IsEventOf, GrantsInOrder}
use Rattle.mdl_core.specs.Cores.{Core}
use Rattle.mdl_core.specs.CoreSystems.{applies, system_of}
use Rattle.mdl_core.specs.SearchLaws.{call_begins_wait, OnlyNewWaitsMakeDeadlocks, SearchingEndsDeadlocks, WaitingLeavesNoDeadlock}
use Rattle.mdl_system.specs.DeadlockLaws as events
use Rattle.mdl_system.specs.Words.{DeadlocksGoThrough, Event, Run, System}
use Rattle.mdl_core.specs.Ties.{IsSoundCore}
use Rattle.mdl_core.proofs.CoreSound.{calls_are-events, calls_keep-sound}
use Rattle.mdl_core.proofs.CoreNumbered.{sound-well_numbered}
use Rattle.mdl_system.proofs.DeadlockCauses.{through-more, run-through, debts-end}
use Rattle.mdl_core.proofs.SearchRuns.{over-whole, none-joined, over-cut, searched, speaks-on, searches-leave}

-- ---- which events a call is

-- by the event that a call is, a session begins to wait where it does by the call
of-call : (a : Core) (call : Call) (answer : Answer) (event : Event Change) → IsEventOf a call answer event
    → (session : ℕ) → events.begins_wait event session ≡ call_begins_wait call answer session
of-call a (Try_now who place mode) (Granted id) event is session = ap (λ e. events.begins_wait e session) is
of-call a (Begin_wait who place mode) (Granted id) event is session = ap (λ e. events.begins_wait e session) is
of-call a (Begin_wait who place mode) (Waits number) event (id, is) session = ap (λ e. events.begins_wait e session) is
of-call a (Search who) (Victim_is victim) event (key, waiter, own, is) session = ap (λ e. events.begins_wait e session) is
of-call a (Settle_timeout who) (Timed_out ByThisCall) event (key, waiter, own, is) session = ap (λ e. events.begins_wait e session) is
of-call a (End_wait who) (Granted id) event (number, is) session = ap (λ e. events.begins_wait e session) is
of-call a (End_wait who) (Lost how) event (key, waiter, own, state, is) session = ap (λ e. events.begins_wait e session) is
of-call a (Kill target number) (Has_killed true) event (key, waiter, own, wait, is) session = ap (λ e. events.begins_wait e session) is
of-call a (Release who id) Done event (ticket, own, number, is) session = ap (λ e. events.begins_wait e session) is
of-call a (Clone_ticket who id mode) (Granted copy) event (ticket, own, number, is) session = ap (λ e. events.begins_wait e session) is
of-call a (Upgrade_now who id mode) Upgraded event (ticket, own, number, is) session = ap (λ e. events.begins_wait e session) is
of-call a (Merge who old new) Done event (kept, gone, own, number, also, other, is) session = ap (λ e. events.begins_wait e session) is
of-call a (Downgrade who id mode) Done event (ticket, own, number, is) session = ap (λ e. events.begins_wait e session) is
of-call a (Change_definition who id change) (Changed version) event (ticket, own, number, is) session = ap (λ e. events.begins_wait e session) is
of-call a _ _ event is session = absurd is

-- by the grants of waiters after it none does
grants-run : {C D : Type 0} (apply : KeyName → C → Option D → Option (Option D)) (key : KeyName) (grants : List (Event C)) (a b : System D)
    → GrantsInOrder apply key grants a b → Run apply grants a b × ((session : ℕ) → events.begins_to_wait grants session ≡ false)
grants-run apply key [] a b same = (same, λ session. refl)
grants-run apply key (event ∷ grants) a b (waiter, between, is, first, happens, order) =
    let rest = grants-run apply key grants between b order in
    ((between, happens, rest.0), λ session. ap (λ e. events.begins_wait e session || events.begins_to_wait grants session) is ∙ rest.1 session)

-- ---- whatever is called

-- the events of a call, by which a session begins to wait where it does by the call
call-run : (a b : Core) (call : Call) (answer : Answer) → IsSoundCore a → Joins a call answer b
    → (all : List (Event Change)) × Run applies all (system_of a) (system_of b)
    × ((session : ℕ) → events.begins_to_wait all session ≡ true → call_begins_wait call answer session ≡ true)
call-run a b call answer sound joins = elim (calls_are-events a b call answer sound joins) [
  | inl same ↦ ([], same.1, λ session e. absurd (false≢true e))
  | inr (event, grants, between, key, is, about, happens, order) ↦ (
      let after = grants-run applies key grants between (system_of b) order in (
        event ∷ grants,
        (between, happens, after.0),
        λ session e.
            (let first = events.begins_wait event session in
            sym (of-call a call answer event is session) ∙ sym (or-false first) ∙ sym (ap (λ later. first || later) (after.1 session)) ∙ e),
      ))
]

pub only-new_waits : OnlyNewWaitsMakeDeadlocks
only-new_waits a b call answer sessions sound joins through =
    let all = call-run a b call answer sound joins in
    through-more (system_of b) (λ session. sessions session || events.begins_to_wait all.0 session) (λ session. sessions session || call_begins_wait call answer session)
    (λ session. or-more (sessions session) (events.begins_to_wait all.0 session) (call_begins_wait call answer session) (all.2 session))
    (run-through applies all.0 (system_of a) (system_of b) sessions (sound-well_numbered a sound) all.1 through)
  where
    or-more : (p q r : Bool) → (q ≡ true → r ≡ true) → (p || q) ≡ true → (p || r) ≡ true
    or-more true q r more e = refl
    or-more false q r more e = more e

-- ---- searches

-- a search begins no wait
searched-through : (a b : Core) (who victim : ℕ) (sessions : ℕ → Bool) → IsSoundCore a → Joins a (Search who) (Victim_is victim) b
    → DeadlocksGoThrough sessions (system_of a) → DeadlocksGoThrough sessions (system_of b)
searched-through a b who victim sessions sound joins through =
    through-more (system_of b) (λ session. sessions session || false) sessions (λ session e. sym (or-false (sessions session)) ∙ e)
    (only-new_waits a b (Search who) (Victim_is victim) sessions sound joins through)

runs-through : (n : ℕ) (a b : Core) (who : ℕ) (sessions : ℕ → Bool) → SpeaksFor a who → Runs Joins a (seeking n who) Over b
    → DeadlocksGoThrough sessions (system_of a) → DeadlocksGoThrough sessions (system_of b)
runs-through zero a b who sessions speaks run through = absurd (over-cut a b who run)
runs-through (suc n) a b who sessions speaks run through = elim (searched n Over a b who over-whole run) [
  | inl none ↦ subst (λ c. DeadlocksGoThrough sessions (system_of c)) (sym (none-joined a b who none.1).1) through
  | inr named ↦ elim named [
    | inl own ↦ searched-through a b who who sessions speaks.1 own.1 through
    | inr h ↦ runs-through n h.1 b who sessions (speaks-on calls_keep-sound a h.1 who h.0 speaks h.3) h.4 (searched-through a h.1 who h.0 sessions speaks.1 h.3 through)
  ]
]

pub searching-ends : SearchingEndsDeadlocks
searching-ends a b who sessions speaks run through =
    debts-end who sessions (system_of b) (searches-leave calls_keep-sound a b who speaks run) (runs-through 1024 a b who sessions speaks run through)

seekers-speak : (n : ℕ) (a b : Core) (who : ℕ) → Runs Joins a (seeking (suc n) who) Over b → SpeaksFor a who
unfolding seeking
seekers-speak n a b who (answer, mid, joins, run) = joins.0

pub waiting-leaves : WaitingLeavesNoDeadlock
waiting-leaves a b c who place number mode joins run free from cycle is =
    let begun : DeadlocksGoThrough (λ session. session == who) (system_of b) =
    only-new_waits a b (Begin_wait who place mode) (Waits number) (λ _. false) joins.0.1 joins (λ first other is_one. absurd (free first other is_one)) in
    let h = searching-ends b c who (λ session. session == who) (seekers-speak 1023 b c who run) run begun from cycle is in
    false≢true (sym (and-not_self (h.0 == who)) ∙ h.2)

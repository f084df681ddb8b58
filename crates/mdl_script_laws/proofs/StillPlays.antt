-- What stands under each key over calls that change no definition, and over statements up to their first change.
use Rattle.std.proofs.Common.{true, List, [], ◌∷◌, inl, inr, sym, subst, ◌∙◌}
use Rattle.mdl_key.specs.Keys.{KeyName}
use Rattle.mdl_defs.specs.declared.change.Change.{Change}
use Rattle.mdl_defs.specs.declared.definition.Definition.{Definition}
use Rattle.mdl_calls.specs.Words.{Answer, Call, Program, Give, Ask, Grow, ◌>>=◌, Runs, Changed, Done, Granted, Waits, Victim_is, Timed_out, Lost, Has_killed, Upgraded, Try_now, Begin_wait, Search, Settle_timeout, End_wait, Kill, Release, Clone_ticket, Upgrade_now, Merge, Downgrade, Change_definition}
use Rattle.mdl_calls.specs.declared.answers.TimedOut.TheVariants.{ByThisCall}
use Rattle.mdl_system.specs.Words.{Event, System, Happens, SameAt, Grant, Clone, BeginWait, GrantWaiter, SettleLost, EndGrantedWait, EndLostWait, Release as Give_up, Upgrade, Merge as Unite, Downgrade as Lower, ChangeDefinition}
use Rattle.mdl_core.specs.CoreJoins.{Joins}
use Rattle.mdl_core.specs.CoreLaws.{GrantsInOrder, IsEventOf}
use Rattle.mdl_core.specs.CoreSystems.{applies, system_of}
use Rattle.mdl_core.specs.Cores.{Core}
use Rattle.mdl_core.specs.Ties.{IsSoundCore}
use Rattle.mdl_core.proofs.CoreSound.{calls_are-events, calls_keep-sound}
use Rattle.mdl_script_laws.specs.Failures.{SameDefinitions}
use Rattle.mdl_script_laws.proofs.StillContexts.{AreStill, IsStill}

-- an event that changes no definition
abbrev IsStillEvent : Event Change → Type 0
IsStillEvent (ChangeDefinition ticket change) = ⊥
IsStillEvent _ = Unit {0}

-- an answer that tells of no change
abbrev pub IsStillAnswer : Call → Answer → Type 0
IsStillAnswer (Change_definition who id change) (Changed version) = ⊥
IsStillAnswer _ _ = Unit {0}

still-event : (a : Core) (call : Call) (answer : Answer) (event : Event Change) → IsStillAnswer call answer → IsEventOf a call answer event → IsStillEvent event
still-event a (Try_now who place mode) (Granted id) event still e = subst IsStillEvent (sym e) tt
still-event a (Begin_wait who place mode) (Granted id) event still e = subst IsStillEvent (sym e) tt
still-event a (Begin_wait who place mode) (Waits number) event still (id, e) = subst IsStillEvent (sym e) tt
still-event a (Search who) (Victim_is victim) event still (key, waiter, its, e) = subst IsStillEvent (sym e) tt
still-event a (Settle_timeout who) (Timed_out ByThisCall) event still (key, waiter, its, e) = subst IsStillEvent (sym e) tt
still-event a (End_wait who) (Granted id) event still (number, e) = subst IsStillEvent (sym e) tt
still-event a (End_wait who) (Lost how) event still (key, waiter, its, so, e) = subst IsStillEvent (sym e) tt
still-event a (Kill target number) (Has_killed true) event still (key, waiter, its, so, e) = subst IsStillEvent (sym e) tt
still-event a (Release who id) Done event still (ticket, its, so, e) = subst IsStillEvent (sym e) tt
still-event a (Clone_ticket who id mode) (Granted copy) event still (ticket, its, so, e) = subst IsStillEvent (sym e) tt
still-event a (Upgrade_now who id mode) Upgraded event still (ticket, its, so, e) = subst IsStillEvent (sym e) tt
still-event a (Merge who old new) Done event still (kept, gone, its, so, other, its_own, e) = subst IsStillEvent (sym e) tt
still-event a (Downgrade who id mode) Done event still (ticket, its, so, e) = subst IsStillEvent (sym e) tt
still-event a (Change_definition who id change) (Changed version) event still e = absurd still
still-event a call answer event still e = absurd e

event-keeps : (event : Event Change) (a b : System Definition) → IsStillEvent event → Happens applies event a b → SameAt a.definitions b.definitions
event-keeps (Grant t) a b still step = step.rest.definitions
event-keeps (Clone first second) a b still step = step.rest.definitions
event-keeps (BeginWait at waiter) a b still step = step.definitions
event-keeps (GrantWaiter at waiter) a b still step = step.definitions
event-keeps (SettleLost at waiter how) a b still step = step.definitions
event-keeps (EndGrantedWait wait) a b still step = step.definitions
event-keeps (EndLostWait at waiter) a b still step = step.definitions
event-keeps (Give_up t) a b still step = step.rest.definitions
event-keeps (Upgrade t mode) a b still step = step.rest.definitions
event-keeps (Unite old new) a b still step = step.rest.definitions
event-keeps (Lower t mode) a b still step = step.rest.definitions
event-keeps (ChangeDefinition t change) a b still step = absurd still

grants-keep : (key : KeyName) (events : List (Event Change)) (a b : System Definition) → GrantsInOrder applies key events a b → SameAt a.definitions b.definitions
grants-keep key [] a b same = same.definitions
grants-keep key (event ∷ events) a b (waiter, between, e, first, step, rest) = λ k.
    grants-keep key events between b rest k ∙ event-keeps event a between (subst IsStillEvent (sym e) tt) step k

call-keeps : (a b : Core) (call : Call) (answer : Answer) → IsSoundCore a → IsStillAnswer call answer → Joins a call answer b → SameDefinitions a b
call-keeps a b call answer sound still joins = elim (calls_are-events a b call answer sound joins) [
  | inl calm ↦ calm.1.definitions
  | inr (event, grants, between, key, is, about, step, rest) ↦ λ k.
      grants-keep key grants between (system_of b) rest k ∙ event-keeps event (system_of a) between (still-event a call answer event still is) step k
]

-- ---- from one space on

-- nothing is defined otherwise than there
abbrev pub At : Core → Core → Type 0
At from a = SameDefinitions from a × IsSoundCore a

pub at-answer : (from a b : Core) (call : Call) (answer : Answer) → IsStillAnswer call answer → At from a → Joins a call answer b → At from b
at-answer from a b call answer still at joins =
    ((λ k. call-keeps a b call answer at.1 still joins k ∙ at.0 k), calls_keep-sound a b call answer at.1 joins)

still-any : (call : Call) (answer : Answer) → IsStill call → IsStillAnswer call answer
still-any (Change_definition who id change) answer still = absurd still
still-any call answer still = tt

pub at-run : {A : Type 0} (from : Core) (program : Program A) (a b : Core) (x : A) → AreStill program → At from a → Runs Joins a program x b → At from b
at-run from (Give y) a b x still at (same, here) = subst (At from) here at
at-run from (Ask call next) a b x still at (answer, mid, joins, run) =
    at-run from (next answer) mid b x (still.1 answer) (at-answer from a mid call answer (still-any call answer still.0) at joins) run
at-run from (Grow refused found) a b x still at (inl run) = at-run from refused a b x still.0 at run
at-run from (Grow refused found) a b x still at (inr run) = at-run from found a b x still.1 at run

-- a program that changes nothing, and what follows
pub at-then : {A B : Type 0} (from : Core) (Q : Type 0) (first : Program A) (next : A → Program B) (a b : Core) (x : B) → AreStill first → At from a
    → ((y : A) (mid : Core) → At from mid → Runs Joins mid (next y) x b → Q) → Runs Joins a (first >>= next) x b → Q
at-then from Q (Give y) next a b x still at later run = later y a at run
at-then from Q (Ask call more) next a b x still at later (answer, mid, joins, run) =
    at-then from Q (more answer) next mid b x (still.1 answer) (at-answer from a mid call answer (still-any call answer still.0) at joins) later run
at-then from Q (Grow refused found) next a b x still at later (inl run) = at-then from Q refused next a b x still.0 at later run
at-then from Q (Grow refused found) next a b x still at later (inr run) = at-then from Q found next a b x still.1 at later run

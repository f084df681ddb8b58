-- Runs of programs over the space of one thread, and their outcomes.
use Rattle.std.proofs.Common.{◌≡◌, ℕ, true, Option, Some, None, IfSome, inr, refl, sym, subst}
use Rattle.mdl_calls.specs.Words.{Answer, Call, caller, IsFaithful, Program, Runs, StepsOrWants, outcome_of}
use Rattle.mdl_calls.proofs.FaithfulLemmas.{runs_sure, runs_frugal, runs_outcome}
use Rattle.mdl_calls.proofs.RunLemmas.{runs_keeps}
use Rattle.mdl_core.specs.CoreCalls.{outcome}
use Rattle.mdl_core.specs.CoreJoins.{Joins, SpeaksFor}
use Rattle.mdl_core.specs.Cores.{Core}
use Rattle.mdl_core.specs.RunLaws.{SureRuns, FrugalRuns, IsMadeFor, OutcomesAreRuns}
use Rattle.mdl_core.proofs.CallLaws.{core-keeps}
use Rattle.mdl_core.proofs.CoreSound.{calls_keep-sound}

-- a call makes its outcome, or finds no memory
pub steps-or_wants : StepsOrWants Joins outcome
steps-or_wants a b call answer joins = joins.1

-- a run of a faithful program whose reply is no fault is its outcome
pub sure-run : {A : Type 0} (F : A → Type 0) (program : Program A) (a b : Core) (reply : A) →
    IsFaithful F program → (F reply → ⊥) → Runs Joins a program reply b → outcome_of outcome program a ≡ (reply, b)
sure-run F program a b reply faithful sound run = runs_sure Joins outcome steps-or_wants F program a b reply faithful sound run

pub sure-runs : (A : Type 0) → SureRuns A
sure-runs A is_fault program a b reply faithful sound run = sure-run (λ x. is_fault x ≡ true) program a b reply faithful (λ fault. cc) run

pub frugal-runs : (A : Type 0) → FrugalRuns A
frugal-runs A program a b reply frugal run = runs_frugal Joins outcome steps-or_wants program a b reply frugal run

-- a call for the session or for nobody joins by its outcome
makes : (who : ℕ) (a : Core) (call : Call) → SpeaksFor a who → IsMadeFor who call → Joins a call (outcome call a).0 (outcome call a).1
makes who a call speaks made = (allowed (caller call) made, inr refl)
  where
    allowed : (maker : Option ℕ) → IfSome maker (λ w. w ≡ who) → IfSome maker (SpeaksFor a)
    allowed None same = tt
    allowed (Some w) same = subst (SpeaksFor a) (sym same) speaks

-- for whom the space speaks before a call, it speaks after it
speaks-on : (who : ℕ) (a b : Core) (call : Call) (answer : Answer) → SpeaksFor a who → Joins a call answer b → SpeaksFor b who
speaks-on who a b call answer speaks joins = core-keeps calls_keep-sound a b call answer who speaks joins

-- and so before and after a run
pub run-speaks : {A : Type 0} (program : Program A) (a b : Core) (reply : A) (who : ℕ) → Runs Joins a program reply b → SpeaksFor a who → SpeaksFor b who
run-speaks program a b reply who run speaks = runs_keeps Joins (λ c. SpeaksFor c who) (speaks-on who) program a b reply speaks run

pub outcomes-are_runs : (A : Type 0) → OutcomesAreRuns A
outcomes-are_runs A program a who speaks made =
    let run = runs_outcome Joins outcome (λ c. SpeaksFor c who) (IsMadeFor who) (makes who) (speaks-on who) program a speaks made in
    (run, λ session spoken. run-speaks program a (outcome_of outcome program a).1 (outcome_of outcome program a).0 session run spoken)

-- Programs that leave a space without a deadlock.
use Rattle.std.proofs.Common.{◌≡◌, ◌⊎◌, ℕ, zero, suc, Option, Some, None, inl, inr, refl, sym, subst}
use Rattle.std.specs.Prelude.{◌==◌}
use Rattle.mdl_calls.specs.Words.{Program, Give, Ask, Grow, ◌>>=◌, EachCall, IsFrugal, Runs, SearchEnd, Over, Cut_off, after_search, outcome_of, seeking, most_searches}
use Rattle.mdl_calls.proofs.FaithfulLemmas.{either}
use Rattle.mdl_calls.proofs.RunLemmas.{runs_keeps}
use Rattle.mdl_calls.proofs.SeekingLemmas.{calls_seeking}
use Rattle.mdl_core.specs.CoreCalls.{outcome, searching_of, victim_at}
use Rattle.mdl_core.specs.CoreJoins.{Joins}
use Rattle.mdl_core.specs.Cores.{Core}
use Rattle.mdl_core.specs.RunLaws.{IsMadeFor}
use Rattle.mdl_core.proofs.CoreSound.{calls_keep-sound}
use Rattle.mdl_core.proofs.RunOutcomes.{outcomes-are_runs}
use Rattle.mdl_core.proofs.SearchRuns.{searches-suffice}
use Rattle.mdl_context.specs.MemoryLaws.{IsOwnCall}
use Rattle.mdl_context.specs.Requests.{Outcome}
use Rattle.mdl_context.proofs.OwnCallLemmas.{own_made}
use Rattle.mdl_context.proofs.WhoLemmas.{StaysOf}
use Rattle.mdl_script_laws.proofs.OutcomeLemmas.{each-outcome, outcome-then}
use Rattle.mdl_script_laws.proofs.NoDeadlockCalls.{IsCalm, IsManaged, IsQuiet, calm-call, frugal-quiet, still-managed}

-- by a session's program, a space without a deadlock comes to be one without a deadlock
abbrev pub LeavesCalm : {A : Type 0} → ℕ → Program A → Type 0
LeavesCalm who program = (a : Core) → IsCalm who a → IsCalm who (outcome_of outcome program a).1

-- ---- one program after another

pub calm-bind : {A B : Type 0} (who : ℕ) (first : Program A) (next : A → Program B) → LeavesCalm who first → ((x : A) → LeavesCalm who (next x))
    → LeavesCalm who (first >>= next)
calm-bind {A} {B} who first next leaves later a calm =
    let end : A × Core = outcome_of outcome first a in
    subst (λ (whole : B × Core). IsCalm who whole.1) (sym (outcome-then outcome first next a)) (later end.0 end.1 (leaves a calm))

-- what a context does, and then what it leads to
pub calm-then : {A B : Type 0} (who : ℕ) (first : Program (Outcome A)) (next : Outcome A → Program B)
    → LeavesCalm {A = Outcome A} who first → StaysOf {A = A} who first
    → ((x : Outcome A) → LeavesCalm x.1.who (next x)) → LeavesCalm who (first >>= next)
calm-then {A} {B} who first next leaves stays later a calm =
    let end : Outcome A × Core = outcome_of outcome first a in
    let same : end.0.1.who ≡ who = each-outcome {A = Outcome A} (λ x. x.1.who ≡ who) outcome first a stays in
    subst (λ (whole : B × Core). IsCalm who whole.1) (sym (outcome-then outcome first next a))
    (subst (λ w. IsCalm w end.1 → IsCalm w (outcome_of outcome (next end.0) end.1).1) same (later end.0 end.1) (leaves a calm))

-- ---- programs by which no wait begins

pub calm-quiet : {A : Type 0} (who : ℕ) (program : Program A) → EachCall (IsMadeFor who) program → EachCall IsQuiet program → LeavesCalm who program
calm-quiet who (Give x) made quiet a calm = calm
calm-quiet who (Ask call more) made quiet a calm =
    calm-quiet who (more (outcome call a).0) (made.1 (outcome call a).0) (quiet.1 (outcome call a).0) (outcome call a).1
    (calm-call who call a made.0 quiet.0 calm)
calm-quiet who (Grow refused found) made quiet a calm = calm-quiet who found made.1 quiet.1 a calm

-- all of its calls are a context's
own-calls : {A : Type 0} (who : ℕ) (program : Program A) → EachCall (IsOwnCall who) program → EachCall (IsMadeFor who) program
own-calls who (Give x) own = tt
own-calls who (Ask call more) own = (own_made who call own.0, λ answer. own-calls who (more answer) (own.1 answer))
own-calls who (Grow refused found) own = (own-calls who refused own.0, own-calls who found own.1)

pub frugal-calls : {A : Type 0} (program : Program A) → IsFrugal program → EachCall IsQuiet program
frugal-calls (Give x) frugal = tt
frugal-calls (Ask call more) frugal = (frugal-quiet call frugal.0, λ answer. frugal-calls (more answer) (frugal.1 answer))
frugal-calls (Grow refused found) frugal = absurd frugal

pub calm-own : {A : Type 0} (who : ℕ) (program : Program A) → EachCall (IsOwnCall who) program → EachCall IsQuiet program → LeavesCalm who program
calm-own who program own quiet = calm-quiet who program (own-calls who program own) quiet

-- one that takes no memory
pub calm-frugal : {A : Type 0} (who : ℕ) (program : Program A) → EachCall (IsOwnCall who) program → IsFrugal program → LeavesCalm who program
calm-frugal who program own frugal = calm-own who program own (frugal-calls program frugal)

-- ---- searches

-- they end by themselves, or are cut off
abbrev AreEnded : Program SearchEnd → Core → Type 0
AreEnded program a = ((outcome_of outcome program a).0 ≡ Over) ⊎ ((outcome_of outcome program a).0 ≡ Cut_off)

-- after one that names this victim, or none
ended-after : (who : ℕ) (victim : Option ℕ) (more : Program SearchEnd) (a : Core) → ((c : Core) → AreEnded more c)
    → AreEnded (after_search who more (searching_of victim a).0) (searching_of victim a).1
ended-after who None more a rest = inl refl
ended-after who (Some victim) more a rest =
    let after = (searching_of (Some victim) a).1 in either (λ program. AreEnded program after) (victim == who) (Give Over) more (inl refl) (rest after)

-- none of them is refused
over-or_cut : (n who : ℕ) (a : Core) → AreEnded (seeking n who) a
unfolding seeking
over-or_cut zero who a = inr refl
over-or_cut (suc n) who a = ended-after who (victim_at who a) (seeking n who) a (λ c. over-or_cut n who c)

-- a session's searches, once they are over
pub record Sought (who : ℕ) (a : Core) : Type 0 where
  pub run : Runs Joins a (seeking most_searches who) Over (outcome_of outcome (seeking most_searches who) a).1
  pub over : (outcome_of outcome (seeking most_searches who) a).0 ≡ Over
  pub managed : IsManaged who (outcome_of outcome (seeking most_searches who) a).1

pub seeks : (who : ℕ) (a : Core) → IsManaged who a → Sought who a
seeks who a managed = record {
  run = subst (λ said. Runs Joins a (seeking most_searches who) said end.1) over run;
  over = over;
  managed = runs_keeps Joins (IsManaged who) (λ b c call answer m joins. still-managed who b c call answer m joins) (seeking most_searches who) a
      end.1 end.0 managed run;
} where
  end : SearchEnd × Core
  end = outcome_of outcome (seeking most_searches who) a

  run : Runs Joins a (seeking most_searches who) end.0 end.1
  run = (outcomes-are_runs SearchEnd (seeking most_searches who) a who managed.speaks (calls_seeking (IsMadeFor who) who refl most_searches)).0

  over : end.0 ≡ Over
  over = elim (over-or_cut most_searches who a) [
    | inl ends ↦ ends
    | inr cut ↦ absurd (searches-suffice calls_keep-sound a end.1 who managed.few managed.speaks
        (subst (λ said. Runs Joins a (seeking most_searches who) said end.1) cut run))
  ]

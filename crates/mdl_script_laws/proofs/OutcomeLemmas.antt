-- What comes of programs of calls: of one after another, of each reply, and of a single call.
use Rattle.std.proofs.Common.{◌≡◌, ℕ, Option, Some, None, inr, refl, sym, subst}
use Rattle.std.specs.Option.{IfSome}
use Rattle.mdl_calls.specs.Words.{Answer, Call, Program, Give, Ask, Grow, ◌>>=◌, Each, caller, outcome_of}
use Rattle.mdl_core.specs.CoreCalls.{outcome}
use Rattle.mdl_core.specs.CoreJoins.{Joins, SpeaksFor}
use Rattle.mdl_core.specs.Cores.{Core}
use Rattle.mdl_core.specs.RunLaws.{IsMadeFor}

-- the outcome of two programs is that of the second after the first
pub outcome-then : {S A B : Type 0} (step : Call → S → Answer × S) (first : Program A) (next : A → Program B) (s : S)
    → outcome_of step (first >>= next) s ≡ outcome_of step (next (outcome_of step first s).0) (outcome_of step first s).1
outcome-then step (Give x) next s = refl
outcome-then step (Ask call more) next s = outcome-then step (more (step call s).0) next (step call s).1
outcome-then step (Grow refused found) next s = outcome-then step found next s

-- what all replies are, that of the outcome is
pub each-outcome : {S A : Type 0} (P : A → Type 0) (step : Call → S → Answer × S) (program : Program A) (s : S) → Each P program
    → P (outcome_of step program s).0
each-outcome P step (Give x) s each = each
each-outcome P step (Ask call next) s each = each-outcome P step (next (step call s).0) (step call s).1 (each (step call s).0)
each-outcome P step (Grow refused found) s each = each-outcome P step found s each.1

-- each reply that a program can give is so, where calls have no other answers than these
abbrev pub EachBy : {A : Type 0} → (Call → Answer → Type 0) → (A → Type 0) → Program A → Type 0
EachBy May P (Give x) = P x
EachBy May P (Ask call next) = (answer : Answer) → May call answer → EachBy May P (next answer)
EachBy May P (Grow refused found) = EachBy May P refused × EachBy May P found

pub each-by : {A : Type 0} (May : Call → Answer → Type 0) (P : A → Type 0) (program : Program A) → Each P program → EachBy May P program
each-by May P (Give x) each = each
each-by May P (Ask call next) each = λ answer may. each-by May P (next answer) (each answer)
each-by May P (Grow refused found) each = (each-by May P refused each.0, each-by May P found each.1)

pub by-each : {A : Type 0} (May : Call → Answer → Type 0) (P : A → Type 0) (program : Program A) → ((call : Call) (answer : Answer) → May call answer)
    → EachBy May P program → Each P program
by-each May P (Give x) all each = each
by-each May P (Ask call next) all each = λ answer. by-each May P (next answer) all (each answer (all call answer))
by-each May P (Grow refused found) all each = (by-each May P refused all each.0, by-each May P found all each.1)

pub by-then : {A B : Type 0} (May : Call → Answer → Type 0) (Q : B → Type 0) (first : Program A) (next : A → Program B) → ((x : A) → EachBy May Q (next x))
    → EachBy May Q (first >>= next)
by-then May Q (Give x) next later = later x
by-then May Q (Ask call more) next later = λ answer may. by-then May Q (more answer) next later
by-then May Q (Grow refused found) next later = (by-then May Q refused next later, by-then May Q found next later)

-- a call for the session or for nobody joins by its outcome
pub joins-outcome : (who : ℕ) (core : Core) (call : Call) → SpeaksFor core who → IsMadeFor who call → Joins core call (outcome call core).0 (outcome call core).1
joins-outcome who core call speaks made = (by (caller call) made, inr refl) where
  by : (maker : Option ℕ) → IfSome maker (λ w. w ≡ who) → IfSome maker (SpeaksFor core)
  by None same = tt
  by (Some w) same = subst (SpeaksFor core) (sym same) speaks

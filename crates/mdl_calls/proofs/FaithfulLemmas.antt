-- Programs where memory is wanting: one after another, and that runs and outcomes are the same where it wasn't.
use Rattle.std.proofs.Common.{◌≡◌, Bool, true, false, if◌then◌else◌, ◌⊎◌, inl, inr, refl, sym, subst}
use Rattle.mdl_calls.proofs.Common.{Answer, Ask, Call, Each, EachCall, Give, Grow, IsFaithful, IsFrugal, OutOfMemory, Program, Refused, Runs, StepsOrWants, outcome_of, takes_memory, ◌>>=◌}

-- one program or the other, by a test
pub either : {A : Type 0} (P : Program A → Type 0) (test : Bool) (one other : Program A) → P one → P other → P (if test then one else other)
either P true one other first second = first
either P false one other first second = second

-- ---- one program after another

-- what its replies lead to
pub each_bind : {A B : Type 0} (P : A → Type 0) (Q : B → Type 0) (first : Program A) (next : A → Program B) →
    Each P first → ((x : A) → P x → Each Q (next x)) → Each Q (first >>= next)
each_bind P Q (Give x) next each later = later x each
each_bind P Q (Ask call more) next each later = λ answer. each_bind P Q (more answer) next (each answer) later
each_bind P Q (Grow refused found) next each later = (each_bind P Q refused next each.0 later, each_bind P Q found next each.1 later)

-- whatever they are
pub each_then : {A B : Type 0} (Q : B → Type 0) (first : Program A) (next : A → Program B) → ((x : A) → Each Q (next x)) → Each Q (first >>= next)
each_then Q (Give x) next later = later x
each_then Q (Ask call more) next later = λ answer. each_then Q (more answer) next later
each_then Q (Grow refused found) next later = (each_then Q refused next later, each_then Q found next later)

-- the calls of both
pub calls_bind : {A B : Type 0} (P : Call → Type 0) (first : Program A) (next : A → Program B) →
    EachCall P first → ((x : A) → EachCall P (next x)) → EachCall P (first >>= next)
calls_bind P (Give x) next each later = later x
calls_bind P (Ask call more) next each later = (each.0, λ answer. calls_bind P (more answer) next (each.1 answer) later)
calls_bind P (Grow refused found) next each later = (calls_bind P refused next each.0 later, calls_bind P found next each.1 later)

-- faithful ones, of which the second passes the fault of the first on
pub faithful_bind : {A B : Type 0} (F : A → Type 0) (G : B → Type 0) (first : Program A) (next : A → Program B) →
    IsFaithful F first → ((x : A) → F x → Each G (next x)) → ((x : A) → IsFaithful G (next x)) → IsFaithful G (first >>= next)
faithful_bind F G (Give x) next made passes later = later x
faithful_bind F G (Ask call more) next made passes later = (
  λ takes. each_bind F G (more (Refused OutOfMemory)) next (made.0 takes) passes,
  λ answer. faithful_bind F G (more answer) next (made.1 answer) passes later,
)
faithful_bind F G (Grow refused found) next made passes later =
    (each_bind F G refused next made.0 passes, faithful_bind F G found next made.1 passes later)

-- frugal ones
pub frugal_bind : {A B : Type 0} (first : Program A) (next : A → Program B) → IsFrugal first → ((x : A) → IsFrugal (next x)) → IsFrugal (first >>= next)
frugal_bind (Give x) next made later = later x
frugal_bind (Ask call more) next made later = (made.0, λ answer. frugal_bind (more answer) next (made.1 answer) later)
frugal_bind (Grow refused found) next made later = absurd made

-- a program that needs no memory is faithful to any fault
pub frugal_faithful : {A : Type 0} (F : A → Type 0) (program : Program A) → IsFrugal program → IsFaithful F program
frugal_faithful F (Give x) made = tt
frugal_faithful F (Ask call more) made = (λ takes. cc, λ answer. frugal_faithful F (more answer) (made.1 answer))
frugal_faithful F (Grow refused found) made = absurd made

-- ---- runs and outcomes

-- what all replies are, that of a run is
pub each_reply : {S A : Type 0} (joins : S → Call → Answer → S → Type 0) (P : A → Type 0) (program : Program A) (a b : S) (reply : A) →
    Each P program → Runs joins a program reply b → P reply
each_reply joins P (Give x) a b reply each (same, here) = subst P same each
each_reply joins P (Ask call next) a b reply each (answer, mid, step, run) = each_reply joins P (next answer) mid b reply (each answer) run
each_reply joins P (Grow refused found) a b reply each (inl run) = each_reply joins P refused a b reply each.0 run
each_reply joins P (Grow refused found) a b reply each (inr run) = each_reply joins P found a b reply each.1 run

-- a run of a faithful program whose reply is no fault is its outcome
pub runs_sure : {S A : Type 0} (joins : S → Call → Answer → S → Type 0) (step : Call → S → Answer × S) → StepsOrWants joins step →
    (F : A → Type 0) (program : Program A) (a b : S) (reply : A) →
    IsFaithful F program → (F reply → ⊥) → Runs joins a program reply b → outcome_of step program a ≡ (reply, b)
runs_sure joins step exact F (Give x) a b reply faithful sound (same, here) = cc
runs_sure {S} joins step exact F (Ask call next) a b reply faithful sound (answer, mid, joined, run) =
    by (runs_sure joins step exact F (next answer) mid b reply (faithful.1 answer) sound run) (exact a mid call answer joined)
  where
    by : outcome_of step (next answer) mid ≡ (reply, b)
        → ((takes_memory call ≡ true) × (answer ≡ Refused OutOfMemory) × (mid ≡ a)) ⊎ (step call a ≡ (answer, mid))
        → outcome_of step (next (step call a).0) (step call a).1 ≡ (reply, b)
    by rest (inl (takes, out, same)) =
        absurd (sound (each_reply joins F (next (Refused OutOfMemory)) mid b reply (faithful.0 takes) (subst (λ r. Runs joins mid (next r) reply b) out run)))
    by rest (inr e) = subst (λ (made : Answer × S). outcome_of step (next made.0) made.1 ≡ (reply, b)) (sym e) rest
runs_sure joins step exact F (Grow refused found) a b reply faithful sound (inl run) =
    absurd (sound (each_reply joins F refused a b reply faithful.0 run))
runs_sure joins step exact F (Grow refused found) a b reply faithful sound (inr run) =
    runs_sure joins step exact F found a b reply faithful.1 sound run

-- so is each run of a program that needs no memory
pub runs_frugal : {S A : Type 0} (joins : S → Call → Answer → S → Type 0) (step : Call → S → Answer × S) → StepsOrWants joins step →
    (program : Program A) (a b : S) (reply : A) → IsFrugal program → Runs joins a program reply b → outcome_of step program a ≡ (reply, b)
runs_frugal {S} {A} joins step exact program a b reply frugal run =
    let F = λ (x : A). ⊥ in
    runs_sure joins step exact F program a b reply (frugal_faithful F program frugal) (λ fault. fault) run

-- an outcome is a run, where each call that may be made joins by its step, as what is always so of the space lets it
pub runs_outcome : {S A : Type 0} (joins : S → Call → Answer → S → Type 0) (step : Call → S → Answer × S) (I : S → Type 0) (P : Call → Type 0) →
    ((a : S) (call : Call) → I a → P call → joins a call (step call a).0 (step call a).1) →
    ((a b : S) (call : Call) (answer : Answer) → I a → joins a call answer b → I b) →
    (program : Program A) (a : S) → I a → EachCall P program → Runs joins a program (outcome_of step program a).0 (outcome_of step program a).1
runs_outcome joins step I P makes keeps (Give x) a start each = (refl, refl)
runs_outcome joins step I P makes keeps (Ask call next) a start each =
    let made = makes a call start each.0 in (
      (step call a).0,
      (step call a).1,
      made,
      runs_outcome joins step I P makes keeps (next (step call a).0) (step call a).1 (keeps a _ call _ start made) (each.1 (step call a).0),
    )
runs_outcome joins step I P makes keeps (Grow refused found) a start each = inr (runs_outcome joins step I P makes keeps found a start each.1)

-- Runs of programs: one after another, and what they keep.
use Rattle.mdl_calls.proofs.Common.{Answer, Ask, Call, Give, Grow, Program, Runs, inl, inr, subst, sym, ◌>>=◌}

-- a run of one program, and then one of what its reply leads to, is a run of both
pub runs_bind : {S A B : Type 0} (joins : S → Call → Answer → S → Type 0) (first : Program A) (next : A → Program B) (a mid b : S) (x : A) (reply : B) →
    Runs joins a first x mid → Runs joins mid (next x) reply b → Runs joins a (first >>= next) reply b
runs_bind joins (Give z) next a mid b x reply (same, here) rest =
    subst (λ w. Runs joins a (next w) reply b) (sym same) (subst (λ s. Runs joins s (next x) reply b) (sym here) rest)
runs_bind joins (Ask call then) next a mid b x reply (answer, after, step, run) rest =
    (answer, after, step, runs_bind joins (then answer) next after mid b x reply run rest)
runs_bind joins (Grow refused found) next a mid b x reply (inl run) rest = inl (runs_bind joins refused next a mid b x reply run rest)
runs_bind joins (Grow refused found) next a mid b x reply (inr run) rest = inr (runs_bind joins found next a mid b x reply run rest)

-- what each call keeps, a run keeps
pub runs_keeps : {S A : Type 0} (joins : S → Call → Answer → S → Type 0) (P : S → Type 0) →
    ((a b : S) (call : Call) (answer : Answer) → P a → joins a call answer b → P b) →
    (program : Program A) (a b : S) (reply : A) → P a → Runs joins a program reply b → P b
runs_keeps joins P keeps (Give x) a b reply start (same, here) = subst P here start
runs_keeps joins P keeps (Ask call then) a b reply start (answer, mid, step, run) =
    runs_keeps joins P keeps (then answer) mid b reply (keeps a mid call answer start step) run
runs_keeps joins P keeps (Grow refused found) a b reply start (inl run) = runs_keeps joins P keeps refused a b reply start run
runs_keeps joins P keeps (Grow refused found) a b reply start (inr run) = runs_keeps joins P keeps found a b reply start run

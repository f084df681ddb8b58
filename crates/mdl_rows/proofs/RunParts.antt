-- The parts of runs.
use Rattle.std.proofs.Common.{inl, inr, refl}
use Rattle.mdl_calls.specs.Words.{Answer, Call, Program, Runs, Give, Ask, Grow, ◌>>=◌}

-- a run of one program and then of what its reply leads to is a run of each
pub parted : {S A B : Type 0} (joins : S → Call → Answer → S → Type 0) (first : Program A) (next : A → Program B) (a b : S) (reply : B)
    → Runs joins a (first >>= next) reply b → (x : A) × (mid : S) × Runs joins a first x mid × Runs joins mid (next x) reply b
parted joins (Give x) next a b reply run = (x, a, (refl, refl), run)
parted joins (Ask call more) next a b reply (answer, then, step, run) =
    let rest = parted joins (more answer) next then b reply run in
    (rest.0, rest.1, (answer, then, step, rest.2), rest.3)
parted joins (Grow refused found) next a b reply (inl run) =
    let rest = parted joins refused next a b reply run in
    (rest.0, rest.1, inl rest.2, rest.3)
parted joins (Grow refused found) next a b reply (inr run) =
    let rest = parted joins found next a b reply run in
    (rest.0, rest.1, inr rest.2, rest.3)

-- Fast tickets at one place that are numbered one after the other.
use Rattle.std.proofs.Common.{◌≡◌, ℕ, suc, ◌+◌, List, [], ◌∷◌, ◌++◌, length, None, refl, ap, ◌∙◌, arith}
use Rattle.std.proofs.lemmas.Bool.{eq-eqb}
use Rattle.mdl_key.specs.declared.mode.Mode.{Mode}
use Rattle.mdl_steps.specs.declared.view.SessionTicket.{SessionTicket}
use Rattle.mdl_steps.specs.Cells.{own_at}
use Rattle.mdl_steps.specs.FastPlays.{fast_own, first_note}
use Rattle.mdl_run_trials.specs.shared.steps.Fast.{fast_from}

-- all are at the place
pub all-there : (place number : ℕ) (modes : List Mode) → own_at place (fast_from place number modes) ≡ fast_from place number modes
all-there place number [] = refl
all-there place number (mode ∷ modes) =
    rw (eq-eqb place place refl) (ap (λ (ts : List SessionTicket). fast_own number place mode None ∷ ts) (all-there place (number + 1) modes))

-- no version is noted under any
pub none-noted : (place number : ℕ) (modes : List Mode) → first_note (fast_from place number modes) ≡ None
none-noted place number [] = refl
none-noted place number (mode ∷ modes) = none-noted place (number + 1) modes

pub as-many : (place number : ℕ) (modes : List Mode) → length (fast_from place number modes) ≡ length modes
as-many place number [] = refl
as-many place number (mode ∷ modes) = ap suc (as-many place (number + 1) modes)

pub one-longer : (modes : List Mode) (mode : Mode) → length (modes ++ mode ∷ []) ≡ length modes + 1
one-longer [] mode = refl
one-longer (first ∷ modes) mode = omega (arith, one-longer modes mode)

-- with one more, which has the next number
pub one-more : (place number : ℕ) (modes : List Mode) (mode : Mode)
    → fast_from place number modes ++ fast_own (number + length modes) place mode None ∷ [] ≡ fast_from place number (modes ++ mode ∷ [])
one-more place number [] mode = ap (λ (n : ℕ). fast_own n place mode None ∷ []) (omega arith)
one-more place number (first ∷ modes) mode =
    ap (λ (ts : List SessionTicket). fast_own number place first None ∷ ts) (
    ap (λ (n : ℕ). fast_from place (number + 1) modes ++ fast_own n place mode None ∷ []) (omega arith)
    ∙ one-more place (number + 1) modes mode
    )

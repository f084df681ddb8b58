-- What a session's own lists tell of its tickets' modes.
use Rattle.std.proofs.Common.{◌≡◌, ℕ, zero, suc, ◌==◌, true, List, [], ◌∷◌, refl, eqb-true}
use Rattle.mdl_shared.proofs.Common.{KnownKey, Mode, by_bool, get_elem?, is_fit, is_mode_of, kind_of, some}

-- a mode fits the first key of the place that the session knows
pub fit_there : (place : ℕ) (mode : Mode) (known : List KnownKey) → is_fit place mode known ≡ true
    → (i : ℕ) × (k : KnownKey) × (get_elem? known i ≡ some k) × (k.place ≡ place) × (is_mode_of (kind_of k.key.namespace) mode ≡ true)
fit_there place mode [] e = absurd (cc)
fit_there place mode (k ∷ ks) e =
    by_bool (k.place == place)
    (λ hit. (zero, k, refl, eqb-true k.place place hit, rw hit at e))
    (λ miss. let later = fit_there place mode ks (rw miss at e) in (suc later.0, later.1, later.2, later.3, later.4))

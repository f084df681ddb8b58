-- What steps of sessions do to tickets and definitions.
use Rattle.std.specs.Prelude.{◌≡◌, ◌⊎◌, ℕ, Contains}
pub use Rattle.mdl_steps.specs.TableChanges.{Makes, TableChange}
use Rattle.mdl_steps_laws.specs.Prelude.{Lose, Mine, Slot, State, Step, View}

-- by this step the session loses its ticket with this number at the place
abbrev pub GivesUp : ℕ → ℕ → {st : Step Slot} {m : Mine} {found : ℕ} {m′ : Mine} → Makes st m found m′ → Type 0
GivesUp place number (Makes.PutsLatch q deeds _ _ _) = (q ≡ place) × Contains deeds (Lose number)
GivesUp place number (Makes.LowersFlags q deeds _ _ _ _ _ _) = (q ≡ place) × Contains deeds (Lose number)
GivesUp place number (Makes.ReleasesFast q n _ _) = (q ≡ place) × (n ≡ number)
GivesUp place number _ = ⊥

-- by this step the session changes the definition at the place
abbrev pub Changes : ℕ → {st : Step Slot} {m : Mine} {found : ℕ} {m′ : Mine} → Makes st m found m′ → Type 0
Changes place (Makes.WritesVersion q _ _ _) = q ≡ place
Changes place _ = ⊥

-- the change is no step by which this seat loses the ticket or changes the definition
abbrev pub Spares : ℕ → ℕ → ℕ → {s t : State Slot View} → TableChange s t → Type 0
Spares seat place number (TableChange.Steps id _ _ _ _ _ _ made _) = id ≡ seat → ¬ (GivesUp place number made ⊎ Changes place made)
Spares seat place number (TableChange.Splits _ _ _ _ _ _ _ _) = Unit {0}

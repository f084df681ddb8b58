-- The place of a key. A key that the session knows takes no step. For another one the session looks in the directory once, which has its place or gives it
-- the next one.
use Rattle.std.specs.Prelude.{◌≡◌, ◌⊎◌, ℕ, ◌<◌, Some, None, Ok, Err}
use Rattle.mdl_calls.specs.declared.space_error.SpaceError.TheVariants as cause
use Rattle.mdl_visits.specs.declared.resolve_error.ResolveError.TheVariants as resolve_error
use Rattle.mdl_shared.specs.FirstWords.{Answer, At_place, KeyName, Lists, LooksUp, MakesNoStep, Refused, SessionView, StepSpec, no_steps, place_known}

-- which steps were made, and what they met. The key is refused if the look finds the directory full. Memory may run out before the look, or at a look that
-- finds a place left for the key
abbrev pub met : KeyName → Answer → Lists → SessionView → SessionView → Type 0
met key (At_place place) l a b =
    (0 < place) × (place < a.table.slots)
    × ((known : ℕ) → place_known key l.known ≡ Some known → MakesNoStep a b)
    × (place_known key l.known ≡ None → LooksUp key (Ok place) a b)
met key (Refused why) l a b =
    (place_known key l.known ≡ None)
    × (((why ≡ cause.NoPlace) × LooksUp key (Err resolve_error.NoPlace) a b) ⊎ ((why ≡ cause.OutOfMemory) × (MakesNoStep a b ⊎ LooksUp key (Err resolve_error.OutOfMemory) a b)))
met key _ l a b = ⊥

-- the call
abbrev pub resolve : KeyName → StepSpec
resolve key = record no_steps { met = met key }

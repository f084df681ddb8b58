-- The end of the session's pin of a place: no step. It is refused for `NoPlace` if the session doesn't pin the place, and for `InUse` if the place is in use.
-- Otherwise it is done.
use Rattle.std.specs.Prelude.{◌≡◌, ◌⊎◌, ℕ, true, false}
use Rattle.mdl_shared.specs.Debts.{Owes}
use Rattle.mdl_shared.specs.FirstWords.{Answer, Done, Lists, MakesNoStep, NoPlace, Refused, SessionView, StepSpec, data_of, has_pin, no_steps}
use Rattle.mdl_shared.specs.Prelude.{AwaitsAt, HoldsAt, InUse}

-- the place is in use: the session has a ticket or a wait there, or owes it a reschedule
abbrev pub IsUsed : ℕ → SessionView → Type 0
IsUsed place s = HoldsAt place (data_of s).own ⊎ AwaitsAt place (data_of s).own ⊎ Owes s s.me.0.number place

-- why it was done or refused, and that no step was made
abbrev pub met : ℕ → Answer → Lists → SessionView → SessionView → Type 0
met place Done l a b = (has_pin place a.pins ≡ true) × (IsUsed place a → ⊥) × MakesNoStep a b
met place (Refused NoPlace) l a b = (has_pin place a.pins ≡ false) × MakesNoStep a b
met place (Refused InUse) l a b = (has_pin place a.pins ≡ true) × IsUsed place a × MakesNoStep a b
met place _ l a b = ⊥

-- the call. What is owed isn't in the lists that `fault` is told, so `met` says why it is refused.
abbrev pub unpin : ℕ → StepSpec
unpin place = record no_steps { met = met place }

-- How a session's lost wait ends at its place.
use Rattle.std.specs.Prelude.{◌≡◌, ℕ, [], Some, None}
use Rattle.mdl_visits.specs.FirstWords.{EndsWait, HasStep, Mine, SeatState, TableId, View}
use Rattle.mdl_visits.specs.Grantings.{VisitsAndReschedules}

-- the view without a wait
abbrev pub idle : View → View
idle v = record v { asks = None; told = None }

-- what a session has, without its wait
abbrev pub mine_without_wait : Mine → Mine
mine_without_wait m = (idle m.0, m.1)

-- the session ended its wait at a place, granted the waits there that could be granted without it, and nothing else changed
abbrev pub EndsLost : TableId → ℕ → Mine → Mine → Type 0
EndsLost id place m m′ = VisitsAndReschedules id place [] (mine_without_wait m) m′

-- if the session knew how its wait was settled, a step ended the wait so
abbrev pub ShowsEnd : SeatState → SeatState → Type 0
ShowsEnd s s′ = (state : ℕ) → s.me.0.told ≡ Some state → HasStep s s′ (EndsWait s.table.slots s.me.0.number s.me.0.waits state)

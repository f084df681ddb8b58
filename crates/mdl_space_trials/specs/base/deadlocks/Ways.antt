-- The ways that complete a path of sessions to a cycle, and the chosen one of them, which trying every path finds.
use Rattle.std.specs.Prelude.{ℕ, ◌≤◌, Bool, ◌&&◌, ◌==◌, List, [], ◌∷◌, length, get_or, Option, Some, None, IsTrue, MatchOption}
use Rattle.std.specs.List.{list_any}
use Rattle.mdl_graph.specs.Members.{Among, AreAmong}
use Rattle.mdl_graph.specs.Cycles.{leads, are_distinct, is_chosen_before, first_of}

-- whether one of these pairs says that the first session waits for the second
abbrev pub waits_by : List (ℕ × ℕ) → ℕ → ℕ → Bool
waits_by ties waiter other = list_any (λ tie. tie.0 == waiter && tie.1 == other) ties

-- what a search is given: who waits for whom, the sessions to search, and the session that a cycle goes through
pub record Search : Type 0 where
  pub waits : ℕ → ℕ → Bool
  pub sessions : List ℕ
  pub from : ℕ

-- a way completes a path to a cycle: the path's last session waits for the first of the way, each session of the way for the next, and the last of
-- them for the session that the cycle goes through. The sessions of the way are distinct, among those to search, not on the path, and at most `most`
pub record IsWay (search : Search) (path : List ℕ) (last most : ℕ) (rest : List ℕ) : Type 0 where
  pub leading : IsTrue (leads search.waits search.from last rest)
  pub distinct : IsTrue (are_distinct rest)
  pub apart : (session : ℕ) → Among session rest → Among session path → ⊥
  pub within : AreAmong rest search.sessions
  pub short : length rest ≤ most

-- the list that fits and is chosen before all others that fit, or none if no list fits
abbrev pub IsChosenOf : (List ℕ → Type 0) → Option (List ℕ) → Type 0
IsChosenOf Fits found =
    MatchOption found ((other : List ℕ) → Fits other → ⊥)
    (λ list. Fits list × ((other : List ℕ) → Fits other → IsTrue (is_chosen_before list other)))

-- a way whose first session is one of these
abbrev pub IsWayBy : Search → List ℕ → ℕ → ℕ → List ℕ → List ℕ → Type 0
IsWayBy search path last most nexts [] = ⊥
IsWayBy search path last most nexts (next ∷ rest) = Among next nexts × IsWay search path last most (next ∷ rest)

-- the search from the first session of a path
abbrev pub search_of : List (ℕ × ℕ) → List ℕ → List ℕ → Search
search_of ties sessions path = record { waits = waits_by ties; sessions = sessions; from = get_or path 0 0 }

-- the chosen one of the best list so far and of a way that begins with the session `next`
abbrev pub better_of : Option (List ℕ) → ℕ → Option (List ℕ) → Option (List ℕ)
better_of best next None = best
better_of best next (Some way) = Some (first_of (next ∷ way) best)

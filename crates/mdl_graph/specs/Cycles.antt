-- Cycles of sessions each of which waits for the next, and the one of them that is chosen. That it is the shortest, and of
-- those the first in lexicographic order, is this project's own choice. MySQL 5.7 takes the first that it finds, and gives up
-- if its search is too deep.
use Rattle.std.specs.Prelude.{ℕ, zero, suc, Bool, true, false, not, ◌&&◌, ◌||◌, ◌==◌, nat_lt, List, [], ◌∷◌, filter, flat_map, map, length, Option, Some, None, IsTrue, if◌then◌else◌}
use Rattle.std.specs.List.{list_any}

-- whether each session of these waits for the next, and the last for the target
abbrev pub leads : (ℕ → ℕ → Bool) → ℕ → ℕ → List ℕ → Bool
leads waits target session [] = waits session target
leads waits target session (next ∷ rest) = waits session next && leads waits target next rest

-- whether no session is in a list twice
abbrev pub are_distinct : List ℕ → Bool
are_distinct [] = true
are_distinct (session ∷ rest) = not (list_any (λ other. session == other) rest) && are_distinct rest

-- whether this is a cycle through a session: distinct sessions that begin with it, each of which waits for the next, and the
-- last for the first
abbrev pub is_cycle_through : (ℕ → ℕ → Bool) → ℕ → List ℕ → Bool
is_cycle_through waits from [] = false
is_cycle_through waits from (first ∷ rest) = first == from && are_distinct (first ∷ rest) && leads waits from first rest

-- a list is a cycle through a session
abbrev pub IsCycleThrough : (ℕ → ℕ → Bool) → ℕ → List ℕ → Type 0
IsCycleThrough waits from cycle = IsTrue (is_cycle_through waits from cycle)

-- whether a list comes before another in lexicographic order, or is the other one
abbrev pub in_order : List ℕ → List ℕ → Bool
in_order [] other = true
in_order (x ∷ xs) [] = false
in_order (x ∷ xs) (y ∷ ys) = nat_lt x y || (x == y && in_order xs ys)

-- whether a cycle is chosen before another one, or is it: it is shorter, or of equal length and first in order
abbrev pub is_chosen_before : List ℕ → List ℕ → Bool
is_chosen_before one other = nat_lt (length one) (length other) || (length one == length other && in_order one other)

-- of two cycles the one that is chosen
abbrev pub first_of : List ℕ → Option (List ℕ) → List ℕ
first_of one None = one
first_of one (Some other) = if is_chosen_before one other then one else other

-- of some cycles the one that is chosen before all others
abbrev pub first_chosen : List (List ℕ) → Option (List ℕ)
first_chosen [] = None
first_chosen (cycle ∷ cycles) = Some (first_of cycle (first_chosen cycles))

-- all lists of these sessions of at most this length
abbrev pub lists_of : List ℕ → ℕ → List (List ℕ)
lists_of sessions zero = [] ∷ []
lists_of sessions (suc n) = [] ∷ flat_map (λ rest. map (λ session. session ∷ rest) sessions) (lists_of sessions n)

-- the chosen one of all cycles of these sessions through one of them
abbrev pub chosen_cycle : (ℕ → ℕ → Bool) → List ℕ → ℕ → Option (List ℕ)
chosen_cycle waits sessions from = first_chosen (filter (is_cycle_through waits from) (lists_of sessions (length sessions)))

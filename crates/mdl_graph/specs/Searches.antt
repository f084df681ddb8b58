-- How a graph stores who waits for whom, and how a search stores how far each session is from the one that it starts at.
use Rattle.std.specs.Prelude.{◌≡◌, ℕ, zero, suc, ◌+◌, ◌<◌, ◌≤◌, Bool, true, false, not, ◌&&◌, ◌||◌, ◌==◌, List, [], ◌∷◌, length, map, flat_map, slice_index, slice_index_or, filter, Option, Some, None, if◌then◌else◌}
use Rattle.std.specs.List.{list_any, count_by, Contains}
use Rattle.std.specs.Option.{option_or, unwrap_or}
use Rattle.mdl_book.specs.declared.book_view.BookView.{BookView}
use Rattle.mdl_key.specs.declared.mode.Mode.{Mode}
use Rattle.mdl_key.specs.Modes.{mode_rank}
use Rattle.mdl_graph.specs.declared.cycle.Member.{Member}
use Rattle.mdl_graph.specs.WaitsFor.{SessionTest, holds_against, waits_ahead}

-- ---- rows: the sessions that wait at a lock with requests for one mode, and those that block such a request

-- pairs of a key and a value
abbrev pub Pairs : Type 0
Pairs = List (ℕ × ℕ)

-- whether the pairs have this value for this key
abbrev pub holds : Pairs → ℕ → ℕ → Bool
holds pairs key value = list_any (λ pair. pair.0 == key && pair.1 == value) pairs

-- whether one session waits for another, by pairs of a row and a session that waits in it, and of a session and a row that it blocks
abbrev pub are_joined : Pairs → Pairs → ℕ → ℕ → Bool
are_joined waits stands waiter other =
    list_any (λ wait. wait.1 == waiter && (not (wait.1 == other) && holds stands other wait.0)) waits

-- the pairs of who waits for whom, by such pairs
abbrev pub ties_of : Pairs → Pairs → Pairs
ties_of waits stands =
    flat_map (λ wait. map (λ stand. (wait.1, stand.0)) (filter (λ stand. stand.1 == wait.0 && not (wait.1 == stand.0)) stands)) waits

-- each row has a number below this one
abbrev pub AreRows : ℕ → Pairs → Type 0
AreRows count waits = (i : ℕ) → i < length waits → (slice_index_or waits i (0, 0)).0 < count

-- each session that waits for another has a request, and all rows are below `rows`
pub record AreWished (wishes : List Member) (rows : ℕ) (waits stands : Pairs) : Type 0 where
  pub wished : (waiter other : ℕ) → are_joined waits stands waiter other ≡ true → Contains (map (λ wish. wish.session) wishes) waiter
  pub known : (row session : ℕ) → rows ≤ row → holds waits row session ≡ false
  pub fresh : (row session : ℕ) → rows ≤ row → holds stands session row ≡ false

-- whether a session blocks a request for a mode at a lock
abbrev pub stands_against : SessionTest → BookView → Mode → ℕ → Bool
stands_against settled book mode session = holds_against book mode session || waits_ahead settled book mode session

-- each row of a lock, from the first one on, is blocked by exactly the sessions that block a request for its mode
abbrev pub AreOfModes : SessionTest → BookView → ℕ → List ℕ → Pairs → Type 0
AreOfModes settled book first ranks stands =
    (row : ℕ) → first ≤ row → row < length ranks → (mode : Mode) → mode_rank mode ≡ slice_index ranks row → (session : ℕ)
    → holds stands session row ≡ stands_against settled book mode session

-- ---- pairs, each with a link to the previous one of the same key

-- the key of the pair at an index
abbrev pub key_at : Pairs → ℕ → ℕ
key_at pairs place = (slice_index_or pairs place (0, 0)).0

-- the value of the pair at an index
abbrev pub value_at : Pairs → ℕ → ℕ
value_at pairs place = (slice_index_or pairs place (0, 0)).1

-- `at` is one more than the index of the last pair of a key, of those before `end`; it is 0 if there is none
pub record IsLast (pairs : Pairs) (key end at : ℕ) : Type 0 where
  pub inside : at ≤ end
  pub here : (place : ℕ) → at ≡ suc place → key_at pairs place ≡ key
  pub none : (place : ℕ) → at ≤ place → place < end → key_at pairs place ≡ key → ⊥

-- the links are right: that of each key to its last pair, and that of each pair to the previous one of its key
pub record AreLinked (lasts : List ℕ) (pairs : Pairs) (befores : List ℕ) : Type 0 where
  pub same : length befores ≡ length pairs
  pub last : (key : ℕ) → IsLast pairs key (length pairs) (slice_index lasts key)
  pub before : (place : ℕ) → place < length pairs → IsLast pairs (key_at pairs place) place (slice_index befores place)

-- the span of each row, from its first index to one after its last, has all pairs of the row
pub record AreSpanned (spans pairs : Pairs) : Type 0 where
  pub order : (row : ℕ) → key_at spans row ≤ value_at spans row
  pub inside : (row : ℕ) → value_at spans row ≤ length pairs
  pub all : (place : ℕ) → place < length pairs → (key_at spans (key_at pairs place) ≤ place) × (place < value_at spans (key_at pairs place))

-- each value is below a number
abbrev pub AreBelow : ℕ → Pairs → Type 0
AreBelow count pairs = (place : ℕ) → place < length pairs → value_at pairs place < count

-- ---- how far sessions are

-- how many steps a session is away; 0 if it wasn't reached
abbrev pub level_of : List ℕ → ℕ → ℕ
level_of levels session = slice_index levels session

-- how many sessions weren't reached
abbrev pub unreached : List ℕ → ℕ
unreached levels = count_by (λ level. level == 0) levels

-- `at` is one more than the first session from a least one on that is this number of steps away; it is 0 if there is none
pub record IsFirst (levels : List ℕ) (steps least at : ℕ) : Type 0 where
  pub here : (session : ℕ) → at ≡ suc session → (least ≤ session) × (session < length levels) × (level_of levels session ≡ steps)
  pub none : (session : ℕ) → least ≤ session → session < length levels → level_of levels session ≡ steps → (0 < at) × (at ≤ suc session)

-- the links of the sessions from a least one on are right: that of each number of steps to its first session, and that of each
-- session to the next one of its number
pub record AreChained (levels firsts afters : List ℕ) (least : ℕ) : Type 0 where
  pub same : length afters ≡ length levels
  pub first : (steps : ℕ) → steps < length firsts → IsFirst levels steps least (slice_index firsts steps)
  pub after : (session : ℕ) → least ≤ session → session < length levels → level_of levels session < length firsts
      → IsFirst levels (level_of levels session) (session + 1) (slice_index afters session)

-- whether a session is in a list
abbrev pub stands_in : List ℕ → ℕ → Bool
stands_in sessions session = list_any (λ other. session == other) sessions

-- how many steps a session is known to be away after a step that leads to it or not: a number that was known before stays
abbrev pub opened : ℕ → Bool → ℕ → ℕ
opened steps is_open known = if (known == 0) && is_open then steps else known

-- whether a session waits in a row, and isn't another one
abbrev pub waits_in : Pairs → ℕ → ℕ → ℕ → Bool
waits_in waits row other session = not (session == other) && holds waits row session

-- whether a session waits for another, found by the rows that the other one blocks
abbrev pub waits_by : Pairs → Pairs → ℕ → ℕ → Bool
waits_by waits stands waiter other = list_any (λ stand. stand.0 == other && waits_in waits stand.1 other waiter) stands

-- all sessions that wait in a row that is done were reached
abbrev pub AreDone : List Bool → Pairs → List ℕ → Type 0
AreDone done waits levels =
    (row session : ℕ) → slice_index_or done row false ≡ true → holds waits row session ≡ true → 0 < level_of levels session

-- whether a session is this number of steps from the one that the search starts at
abbrev pub is_at : List ℕ → ℕ → ℕ → ℕ → Bool
is_at levels from zero session = session == from
is_at levels from (suc n) session = level_of levels session == suc n

-- the sessions of up to `reach` steps were reached, each by the fewest steps
pub record IsSearched (waits : ℕ → ℕ → Bool) (from : ℕ) (levels : List ℕ) (reach : ℕ) : Type 0 where
  pub sound : (session m : ℕ) → level_of levels session ≡ suc m → (next : ℕ) × (waits session next ≡ true) × (is_at levels from m next ≡ true)
  pub within : (session : ℕ) → level_of levels session ≤ reach
  pub best : (m next session : ℕ) → m < reach → is_at levels from m next ≡ true → waits session next ≡ true
      → (0 < level_of levels session) × (level_of levels session ≤ suc m)

-- the search is over: the session that it starts at was reached again, or can't be
pub record IsOver (waits : ℕ → ℕ → Bool) (from : ℕ) (levels : List ℕ) : Type 0 where
  pub reach : ℕ
  pub searched : IsSearched waits from levels reach
  pub over : level_of levels from ≡ 0 → (m session : ℕ) → is_at levels from m session ≡ true → m < reach

-- the first number below another one that passes the test
abbrev pub first_below : (ℕ → Bool) → ℕ → Option ℕ
first_below test zero = None
first_below test (suc n) = option_or (first_below test n) (if test n then Some n else None)

-- the least session that a session waits for, of those this number of steps away; the session itself if there is none
abbrev pub next_of : (ℕ → ℕ → Bool) → ℕ → List ℕ → ℕ → ℕ → ℕ
next_of waits from levels steps session =
    unwrap_or (first_below (λ next. is_at levels from steps next && waits session next) (length levels)) session

-- the path of a session that is this number of steps away, without its end
abbrev pub walk : (ℕ → ℕ → Bool) → ℕ → List ℕ → ℕ → ℕ → List ℕ
walk waits from levels zero session = []
walk waits from levels (suc n) session = session ∷ walk waits from levels n (next_of waits from levels n session)

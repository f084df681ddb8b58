-- What a session sees that searches for a deadlock while it holds the latches of all places that have a key.
use Rattle.std.specs.Prelude.{◌≡◌, ℕ, ◌<◌, ◌≤◌, ◌==◌, ◌&&◌, not, List, length, map, Some, Contains}
use Rattle.mdl_graph.specs.Cycles.{IsCycleThrough}
use Rattle.mdl_graph.specs.WaitsFor.{SessionTest, waits_for}
use Rattle.mdl_steps.specs.FirstWords.{Keys, LatchRecord, StepRecord, held_at, list_any, unsettled_state, wait_state, wait_word}
use Rattle.mdl_steps.specs.Plays.{Mine}
use Rattle.mdl_steps.specs.Servings.{OnlyMeets}

-- whether a session's wait isn't open by one of these words, each of which stands behind its session
abbrev pub settled_in : List (ℕ × ℕ) → SessionTest
settled_in words session = list_any (λ (w : ℕ × ℕ). w.0 == session && not (wait_state w.1 == unsettled_state)) words

-- a step of the session only met this word of a session's wait, while it had just the records of latches that it has now
abbrev pub WasMetNow : ℕ → Mine → ℕ × ℕ → Type 0
WasMetNow slots m w =
    (e : StepRecord) × Contains m.0.log e × OnlyMeets e.kind × (e.word ≡ wait_word slots w.0) × (e.found ≡ w.1) × (e.held ≡ m.0.latches)

-- the session holds the directory's latch, and the latches of the places of all its keys. By the books in their records, and by words of waits that it met
-- under just these latches, it is in no cycle
pub record SeesNoDeadlock (slots : ℕ) (m : Mine) : Type 0 where
  pub keys : Keys
  pub directory : m.0.directory ≡ Some keys
  pub all : (p : ℕ) → 0 < p → p ≤ length keys.keys → (h : LatchRecord) × (held_at p m.0.latches ≡ Some h)
  pub words : List (ℕ × ℕ)
  pub met : (w : ℕ × ℕ) → Contains words w → WasMetNow slots m w
  pub none : (cycle : List ℕ) → IsCycleThrough (waits_for (settled_in words) (map (λ (h : LatchRecord). h.book) m.0.latches)) m.0.number cycle → ⊥

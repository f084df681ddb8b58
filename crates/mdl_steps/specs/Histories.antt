-- The tables that are reached by whole changes from an opening.
use Rattle.std.specs.Prelude.{◌≡◌, ℕ, List, length}
use Rattle.mdl_steps.specs.FirstWords.{IsOpening, Rule, Slot, State, View, blank, numbers_for, opening, word_count}
use Rattle.mdl_steps.specs.TableChanges.{IsWholeChange, TableChange}

-- a table is reached by whole changes from an opening, and the rule holds after each of them
pub data Reached : State Slot View → Type 0 where
  Opens : (sessions : ℕ) (words : List ℕ) (slots : List Slot) → IsOpening sessions words slots →
      Reached (opening words slots (blank 0 (numbers_for sessions 0 0)))
  Goes : (s t : State Slot View) → Reached s → Rule t → (turn : TableChange s t) → IsWholeChange turn → Reached t

-- such a table with words for this number of sessions
abbrev pub ReachedFor : ℕ → State Slot View → Type 0
ReachedFor sessions s = Reached s × (length s.words ≡ word_count (length s.homes) sessions)

-- the rule holds of each table that is reached, so also at an opening
abbrev pub ReachedTablesKeepTheRule : Type 0
ReachedTablesKeepTheRule = (s : State Slot View) → Reached s → Rule s

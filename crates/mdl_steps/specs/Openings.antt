-- The table at the start, before any session has a number.
use Rattle.std.specs.Prelude.{◌≡◌, ◌≢◌, ℕ, ◌<◌, ◌≤◌, List, [], ◌∷◌, length, replicate, slice_index, slice_set}
use Rattle.mdl_steps.specs.Prelude.{KeyName, Slot, empty_book, get_elem?, global_key, some}
use Rattle.mdl_steps.specs.Layout.{enrol_word, word_count}
use Rattle.mdl_steps.specs.Limits.{most_enrolled}
use Rattle.mdl_steps.specs.declared.slot.Slot.TheVariants as slot

-- the words and slots of a new table: the directory is empty, and so is the book of each place. The first number to be drawn is 1, and every other
-- word is 0
pub record IsOpening (sessions : ℕ) (words : List ℕ) (slots : List Slot) : Type 0 where
  pub limit : sessions ≤ most_enrolled
  pub wide : length words ≡ word_count (length slots) sessions
  pub drawn : slice_index words (enrol_word (length slots)) ≡ 1
  pub zeros : (i : ℕ) → i ≢ enrol_word (length slots) → slice_index words i ≡ 0
  pub directory : get_elem? slots 0 ≡ some (slot.Directory (record { keys = [] }))
  pub places : (p : ℕ) → 0 < p → p < length slots → (key : KeyName) × (get_elem? slots p ≡ some (slot.Place (empty_book key)))

-- the words of a new table: all are 0, except that the first number to be drawn is 1
abbrev pub opening_words : ℕ → ℕ → List ℕ
opening_words slots sessions = slice_set (replicate (word_count slots sessions) 0) (enrol_word slots) 1

-- the slots of a new table: the empty directory, and empty books. These are all of one key, since no place has a key of its own yet
abbrev pub opening_slots : ℕ → List Slot
opening_slots places = slot.Directory (record { keys = [] }) ∷ replicate places (slot.Place (empty_book global_key))

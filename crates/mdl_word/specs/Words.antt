-- The packed word of one lock, after MySQL 5.7, sql/mdl.h and sql/mdl.cc: the fast path state of a lock,
-- `MDL_lock::m_fast_path_state`. The layout is this project's own.
use Rattle.std.specs.Prelude.{◌≡◌, ℕ, ◌+◌, ◌-◌, ◌*◌, ◌/◌, ◌%◌, ◌^◌, ◌<◌, ◌≤◌, Bool, true, false, not, ◌==◌, ◌&&◌, nat_lt, List, [], ◌∷◌, Option, slice_index}
use Rattle.std.specs.List.{list_any}
use Rattle.std.specs.Int.{bit_at}
use Rattle.std.specs.Option.{option_map, option_map_or}
use Rattle.mdl_key.specs.declared.namespace.Kind.{Kind}
use Rattle.mdl_key.specs.declared.mode.Mode.{Mode}
use Rattle.mdl_key.specs.Words.{all_modes, clashes, class_of}

-- a flag as a number
abbrev pub bit : Bool → ℕ
bit false = 0
bit true = 1

-- the number that packs three counts, of 20 bits each, and two flags
abbrev pub encode : ℕ → ℕ → ℕ → Bool → Bool → ℕ
encode a b c slow obtrusive =
    a + b * 1048576 + c * 1099511627776 + bit slow * 1152921504606846976 + bit obtrusive * 2305843009213693952

-- the word that has just these flags and counts no tickets
abbrev pub flags_alone : Bool → Bool → ℕ
flags_alone slow obtrusive = bit slow * 2 ^ 60 + bit obtrusive * 2 ^ 61

-- the number of 64 bits that has all bits except the flags to be lowered
abbrev pub all_but_flags : Bool → Bool → ℕ
all_but_flags slow obtrusive = 2 ^ 64 - 1 - flags_alone (not slow) (not obtrusive)

-- the word is lawful: it counts a, b and c tickets in the classes 0, 1 and 2, and has these flags
pub record Encodes (word a b c : ℕ) (slow obtrusive : Bool) : Type 0 where
  pub first_fits : a < 1048576
  pub second_fits : b < 1048576
  pub third_fits : c < 1048576
  pub is_encoded : word ≡ encode a b c slow obtrusive

-- a word's counts of the classes 0, 1 and 2
abbrev pub counts_of : ℕ → List ℕ
counts_of word = word % 1048576 ∷ word / 1048576 % 1048576 ∷ word / 1099511627776 % 1048576 ∷ []

-- whether the word says that a ticket is in one of the lock's lists
abbrev pub slow_flag : ℕ → Bool
slow_flag word = bit_at word 60 == 1

-- whether the word says that one of these tickets is in an obtrusive mode
abbrev pub obtrusive_flag : ℕ → Bool
obtrusive_flag word = bit_at word 61 == 1

-- the number that one fast ticket adds to the word, for a mode whose tickets are counted
abbrev pub increment_of : Kind → Mode → Option ℕ
increment_of kind mode = option_map (λ class. 1048576 ^ class) (class_of kind mode)

-- how many times a ticket in this mode is counted in a class: once in its own
abbrev pub one_in : ℕ → Kind → Mode → ℕ
one_in class kind mode = option_map_or (λ own. bit (own == class)) (class_of kind mode) 0

-- how many tickets are counted in the class of a mode, by the counts of the three classes
abbrev pub count_with : List ℕ → Kind → Mode → ℕ
count_with counts kind mode = option_map_or (λ class. slice_index counts class) (class_of kind mode) 0

-- whether a class that has tickets blocks a request: a mode of that class clashes with it
abbrev pub blocks_by : List ℕ → Kind → Mode → Bool
blocks_by counts kind ask = list_any (λ held. nat_lt 0 (count_with counts kind held) && clashes kind ask held) all_modes

-- each class has at most as many tickets by the first counts as by the second
abbrev pub CountAtMost : List ℕ → List ℕ → Type 0
CountAtMost few many = (class : ℕ) → class < 3 → slice_index few class ≤ slice_index many class

-- Laws of the packed word, after MySQL 5.7, sql/mdl.cc: the fast path adds a ticket's increment to the word, and subtracts
-- it when the ticket is released. The layout, and so the laws of its numbers, are this project's own.
use Rattle.std.specs.Prelude.{◌≡◌, ◌≢◌, ℕ, ◌+◌, ◌-◌, ◌^◌, ◌<◌, ◌≤◌, Bool, true, false, ◌&&◌, ◌||◌, List, [], ◌∷◌, length, sum, All, Some, bit_and, bit_or, slice_index, IsTrue, ◌↔◌}
use Rattle.std.specs.Int.{bit_at}
use Rattle.mdl_key.specs.declared.namespace.Kind.{Kind}
use Rattle.mdl_key.specs.declared.mode.Mode.{Mode}
use Rattle.mdl_key.specs.Words.{clashes, Clashes, class_of}
use Rattle.mdl_word.specs.Words.{encode, flags_alone, all_but_flags, Encodes, counts_of, slow_flag, obtrusive_flag, increment_of, one_in, count_with, blocks_by, CountAtMost}

-- a lawful word is below 2^62, and any such number is the lawful word of the counts and flags that are read from it
abbrev pub LawfulWords : Type 0
LawfulWords =
    ((word a b c : ℕ) (slow obtrusive : Bool) → Encodes word a b c slow obtrusive → word < 2 ^ 62)
    × ((word : ℕ) → word < 2 ^ 62 →
    let counts = counts_of word in
    Encodes word (slice_index counts 0) (slice_index counts 1) (slice_index counts 2) (slow_flag word) (obtrusive_flag word))

-- two readings of one word are the same
abbrev pub WordsAreReadOneWay : Type 0
WordsAreReadOneWay =
    (word a b c a′ b′ c′ : ℕ) (slow obtrusive slow′ obtrusive′ : Bool) →
    Encodes word a b c slow obtrusive →
    Encodes word a′ b′ c′ slow′ obtrusive′ →
    (a ≡ a′) × (b ≡ b′) × (c ≡ c′) × (slow ≡ slow′) × (obtrusive ≡ obtrusive′)

-- the increment of a mode, added, counts one ticket more in its class and changes nothing else, if that class has fewer than
-- 1,048,575
abbrev pub AddingCountsOneMore : Type 0
AddingCountsOneMore =
    (kind : Kind) (mode : Mode) (n word a b c : ℕ) (slow obtrusive : Bool) →
    increment_of kind mode ≡ Some n →
    Encodes word a b c slow obtrusive →
    count_with (a ∷ b ∷ c ∷ []) kind mode < 1048575 →
    Encodes (word + n) (a + one_in 0 kind mode) (b + one_in 1 kind mode) (c + one_in 2 kind mode) slow obtrusive

-- the increment of a mode, subtracted from a word that counts a ticket in its class, undoes this and changes nothing else
abbrev pub SubtractingCountsOneLess : Type 0
SubtractingCountsOneLess =
    (kind : Kind) (mode : Mode) (n word a b c : ℕ) (slow obtrusive : Bool) →
    increment_of kind mode ≡ Some n →
    Encodes word (a + one_in 0 kind mode) (b + one_in 1 kind mode) (c + one_in 2 kind mode) slow obtrusive →
    (n ≤ word) × Encodes (word - n) a b c slow obtrusive

-- any number of tickets in each class, added or subtracted at once
abbrev pub ManyAreCountedAtOnce : Type 0
ManyAreCountedAtOnce =
    (word a b c x y z : ℕ) (slow obtrusive : Bool) →
    a + x < 1048576 → b + y < 1048576 → c + z < 1048576 →
    let many = encode x y z false false in
    (Encodes word a b c slow obtrusive → Encodes (word + many) (a + x) (b + y) (c + z) slow obtrusive)
    × (Encodes word (a + x) (b + y) (c + z) slow obtrusive → (many ≤ word) × Encodes (word - many) a b c slow obtrusive)

-- a flag is raised by `|` with its bit and lowered by `&` with all 64 bits but its own, and nothing else changes
abbrev pub FlagsAreRaisedAndLowered : Type 0
FlagsAreRaisedAndLowered =
    (word a b c : ℕ) (slow obtrusive : Bool) →
    Encodes word a b c slow obtrusive →
    Encodes (bit_or word (2 ^ 60)) a b c true obtrusive
    × Encodes (bit_or word (2 ^ 61)) a b c slow true
    × Encodes (bit_and word (2 ^ 64 - 1 - 2 ^ 60)) a b c false obtrusive
    × Encodes (bit_and word (2 ^ 64 - 1 - 2 ^ 61)) a b c slow false

-- a number has these two flags, and otherwise equals another one: it has the same counts, and the same 64 bits except the flags
pub record HasFlags (word new : ℕ) (slow obtrusive : Bool) : Type 0 where
  pub same_counts : counts_of new ≡ counts_of word
  pub same_bits : (place : ℕ) → place < 64 → place ≢ 60 → place ≢ 61 → bit_at new place ≡ bit_at word place
  pub has_slow : slow_flag new ≡ slow
  pub has_obtrusive : obtrusive_flag new ≡ obtrusive

-- `|` with the number of some flags raises just these, of any number and of a lawful word
abbrev pub FlagsAreRaisedAtOnce : Type 0
FlagsAreRaisedAtOnce =
    (word : ℕ) (raise_slow raise_obtrusive : Bool) →
    let new = bit_or word (flags_alone raise_slow raise_obtrusive) in
    HasFlags word new (raise_slow || slow_flag word) (raise_obtrusive || obtrusive_flag word)
    × ((a b c : ℕ) (slow obtrusive : Bool) → Encodes word a b c slow obtrusive → Encodes new a b c (raise_slow || slow) (raise_obtrusive || obtrusive))

-- `&` with the number of all bits but some flags lowers just these, of any number and of a lawful word
abbrev pub FlagsAreLoweredAtOnce : Type 0
FlagsAreLoweredAtOnce =
    (word : ℕ) (keep_slow keep_obtrusive : Bool) →
    let new = bit_and word (all_but_flags keep_slow keep_obtrusive) in
    HasFlags word new (keep_slow && slow_flag word) (keep_obtrusive && obtrusive_flag word)
    × ((a b c : ℕ) (slow obtrusive : Bool) → Encodes word a b c slow obtrusive → Encodes new a b c (keep_slow && slow) (keep_obtrusive && obtrusive))

-- up to 1,024 sessions with up to 1,023 tickets each have at most 1,047,552: a count of 20 bits has room for them
abbrev pub CountsFit : Type 0
CountsFit = (tickets : List ℕ) → All (λ n. n ≤ 1023) tickets → length tickets ≤ 1024 → sum tickets < 1048576

-- modes of one class clash with the same requests
abbrev pub ClassesClashAsOne : Type 0
ClassesClashAsOne =
    (kind : Kind) (ask a b : Mode) (class : ℕ) →
    class_of kind a ≡ Some class → class_of kind b ≡ Some class → clashes kind ask a ≡ clashes kind ask b

-- modes that are counted never clash with one another, in locks of one kind
abbrev pub CountedModesDontClash : Type 0
CountedModesDontClash =
    (kind : Kind) (a b : Mode) (m n : ℕ) →
    increment_of kind a ≡ Some m → increment_of kind b ≡ Some n → Clashes kind a b → ⊥

-- what some counts block is blocked by counts that have at least as many tickets in each class
abbrev pub LargerCountsBlockMore : Type 0
LargerCountsBlockMore =
    (few many : List ℕ) (kind : Kind) (ask : Mode) →
    CountAtMost few many → IsTrue (blocks_by few kind ask) → IsTrue (blocks_by many kind ask)

-- a word's counts block a request exactly if there is a mode that clashes with it, in whose class there are tickets
abbrev pub BlocksWhereCountedTicketsClash : Type 0
BlocksWhereCountedTicketsClash =
    (counts : List ℕ) (kind : Kind) (ask : Mode) →
    IsTrue (blocks_by counts kind ask) ↔ ((held : Mode) × (0 < count_with counts kind held) × Clashes kind ask held)

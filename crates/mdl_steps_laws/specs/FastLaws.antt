-- The steps of a lock word's fast path, as events of the table's system. Each changes the word of one place and the view of one
-- session; a materialisation changes the record of the latch, too.
use Rattle.std.specs.Prelude.{◌≡◌, ℕ, suc, ◌+◌, ◌-◌, ◌%◌, ◌^◌, ◌<◌, false, List, length, Option, Contains, slice_index, slice_set}
use Rattle.mdl_steps_laws.specs.FirstWords.{AreKeysOf, Brings, Definition, Grant, HasNoWait, IsTold, KeyName, LatchRecord, MayGrantFast, MayMaterialise, MayReleaseFast, Mine, Mode, Release, Rests, Rule, Slot, State, StepKind, System, Ticket, View, get_elem?, granted_fast, lock_word, materialised, met_word_by, obtrusive_flag, of_lock, released_fast, some, ticket_by}

-- the word of a place's lock
abbrev pub word_at : State Slot View → ℕ → ℕ
word_at s place = slice_index s.words (lock_word place)

-- the table after a step of a seat that leaves this word at a place
abbrev pub after_word : State Slot View → ℕ → ℕ → ℕ → Mine → State Slot View
after_word s place word id me = record {
  words = slice_set s.words (lock_word place) word;
  homes = s.homes;
  views = slice_set s.views id me.0;
}

-- a fast grant is a grant in the system, even if the session has another ticket of the key: while the flag OBTRUSIVE is down, each request that the
-- word can count is grantable
abbrev pub GrantingFastGrants : Type 0
GrantingFastGrants =
    (s : State Slot View) → Rule s → (keys : List KeyName) → AreKeysOf s keys → (i : ℕ) (key : KeyName) → get_elem? keys i ≡ some key →
    (id : ℕ) (me : Mine) → get_elem? s.views id ≡ some me.0 → 0 < me.0.number →
    (mode : Mode) (noted : Option ℕ) (one : ℕ) → MayGrantFast (suc i) mode noted one me → obtrusive_flag (word_at s (suc i)) ≡ false →
    Brings (Grant (of_lock key (record { session = me.0.number; number = me.0.next; mode = mode })))
    s (after_word s (suc i) (word_at s (suc i) + one) id (granted_fast (suc i) mode noted (word_at s (suc i)) me))

-- a fast release is a release in the system
abbrev pub ReleasingFastReleases : Type 0
ReleasingFastReleases =
    (s : State Slot View) → Rule s → (keys : List KeyName) → AreKeysOf s keys → (i : ℕ) (key : KeyName) → get_elem? keys i ≡ some key →
    (id : ℕ) (me : Mine) → get_elem? s.views id ≡ some me.0 → 0 < me.0.number →
    (number one : ℕ) (may : MayReleaseFast (suc i) number one me) →
    Brings (Release (of_lock key (ticket_by me.0.number may.ticket)))
    s (after_word s (suc i) ((word_at s (suc i) + (2 ^ 64 - one)) % 2 ^ 64) id (released_fast (suc i) number (word_at s (suc i)) me))

-- materialising under the latch leaves the system unchanged: the session holds the same tickets, as slow ones
abbrev pub MaterialisingRests : Type 0
MaterialisingRests =
    (s : State Slot View) → Rule s → (keys : List KeyName) → AreKeysOf s keys → (i : ℕ) (key : KeyName) → get_elem? keys i ≡ some key →
    (id : ℕ) (me : Mine) → get_elem? s.views id ≡ some me.0 → (weight : ℕ) (h : LatchRecord) → MayMaterialise (suc i) weight h me →
    Rests s (after_word s (suc i) ((word_at s (suc i) + (2 ^ 64 - weight)) % 2 ^ 64) id (materialised (suc i) (word_at s (suc i)) me))

-- reading the word of a place without its latch, or finding a word that isn't the one that a fast grant expects, leaves the system unchanged
abbrev pub ReadingUnlatchedRests : Type 0
ReadingUnlatchedRests =
    (s : State Slot View) → Rule s → (place : ℕ) → 0 < place → place < length s.homes → (id : ℕ) (me : Mine) → get_elem? s.views id ≡ some me.0 →
    (kind : StepKind) → Rests s (after_word s place (word_at s place) id (met_word_by kind place (word_at s place) me))

-- a session that waits, or that hasn't ended its granted wait, has no fast ticket
abbrev pub WaitersHaveNoFastTickets : Type 0
WaitersHaveNoFastTickets =
    (s : State Slot View) → Rule s → (system : System Definition) → (told : IsTold s system) →
    (key : KeyName) (t : Ticket) → Contains (told.0 key).fast t → HasNoWait system t.session

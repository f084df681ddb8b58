-- The steps by which deeds and changes of definitions come to be of the table do them in its locks.
use Rattle.std.proofs.Common.{◌≡◌, ℕ, suc, Bool, List, Some}
use Rattle.mdl_steps_laws.proofs.Common.{AreLocksOf, Change, Deed, KeyName, LatchRecord, Lock, Mine, Rule, SameElsewhere, Slot, State, View, after_lowering, after_put, after_writing, all_booked, get_elem?, held_at, some, standing_after}
use Rattle.mdl_steps_laws.proofs.DeedLaws.{lock_after, lock_redefined}

-- the locks after deeds of a session under one key
abbrev pub AreAfter : ℕ → List Deed → KeyName → (KeyName → Lock) → (KeyName → Lock) → Type 0
AreAfter session deeds key old new = (new key ≡ lock_after session deeds (old key)) × SameElsewhere key old new

-- the latch of a key's place is put after deeds: they are done to its lock, and nothing to others
abbrev pub PuttingDoes : Type 0
PuttingDoes =
    (s : State Slot View) → Rule s → (old new : KeyName → Lock) → (are : AreLocksOf s old) →
    (i : ℕ) (key : KeyName) → get_elem? are.keys i ≡ some key →
    (id : ℕ) (me : Mine) → get_elem? s.views id ≡ some me.0 → (h : LatchRecord) → held_at (suc i) me.0.latches ≡ Some h →
    (ds : List Deed) → Rule (after_put s (suc i) ds (all_booked me.0.number ds h.book) id me) →
    AreAfter me.0.number ds key old new →
    AreLocksOf (after_put s (suc i) ds (all_booked me.0.number ds h.book) id me) new

-- and so where flags are lowered after deeds, while the latch is held
abbrev pub LoweringDoes : Type 0
LoweringDoes =
    (s : State Slot View) → Rule s → (old new : KeyName → Lock) → (are : AreLocksOf s old) →
    (i : ℕ) (key : KeyName) → get_elem? are.keys i ≡ some key →
    (id : ℕ) (me : Mine) → get_elem? s.views id ≡ some me.0 → (h : LatchRecord) → held_at (suc i) me.0.latches ≡ Some h →
    (ds : List Deed) (found left : ℕ) (slow obtrusive : Bool) →
    Rule (after_lowering s (suc i) ds found left (all_booked me.0.number ds h.book) slow obtrusive id me) →
    AreAfter me.0.number ds key old new →
    AreLocksOf (after_lowering s (suc i) ds found left (all_booked me.0.number ds h.book) slow obtrusive id me) new

-- and so the definition in the lock of a key is changed as its version is written
abbrev pub WritingRedefines : Type 0
WritingRedefines =
    (s : State Slot View) → Rule s → (old new : KeyName → Lock) → (are : AreLocksOf s old) →
    (i : ℕ) (key : KeyName) → get_elem? are.keys i ≡ some key →
    (id : ℕ) (me : Mine) → get_elem? s.views id ≡ some me.0 → (h : LatchRecord) → held_at (suc i) me.0.latches ≡ Some h →
    (change : Change) → Rule (after_writing s (suc i) (standing_after change h.book.standing) id me) →
    new key ≡ lock_redefined change (old key) → SameElsewhere key old new →
    AreLocksOf (after_writing s (suc i) (standing_after change h.book.standing) id me) new

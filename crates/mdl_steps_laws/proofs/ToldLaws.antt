-- The steps by which deeds and changes of definitions come to be of the table do them in the system, whichever locks and systems the table has
-- before and after, and leave all waits as they are: what the laws of deeds ask for is so.
use Rattle.std.proofs.Common.{◌≡◌, ℕ, suc, Bool, List, Some}
use Rattle.mdl_steps_laws.proofs.Common.{AreKeysOf, Change, Deed, Definition, IsTold, KeyName, LatchRecord, Mine, Rule, Slot, State, System, View, after_lowering, after_put, after_writing, all_booked, get_elem?, held_at, some, standing_after}
use Rattle.mdl_steps_laws.proofs.DeedLaws.{Does, Redefines}

-- the latch of a key's place is put after deeds: they are done
abbrev pub PuttingIsDone : Type 0
PuttingIsDone =
    (s : State Slot View) → Rule s → (keys : List KeyName) → AreKeysOf s keys → (i : ℕ) (key : KeyName) → get_elem? keys i ≡ some key →
    (id : ℕ) (me : Mine) → get_elem? s.views id ≡ some me.0 → (h : LatchRecord) → held_at (suc i) me.0.latches ≡ Some h →
    (ds : List Deed) → Rule (after_put s (suc i) ds (all_booked me.0.number ds h.book) id me) →
    (a b : System Definition) → (told : IsTold s a) → (then_ : IsTold (after_put s (suc i) ds (all_booked me.0.number ds h.book) id me) b) →
    Does me.0.number ds key told.0 then_.0 a b

-- and so where flags are lowered after deeds, while the latch is held
abbrev pub LoweringIsDone : Type 0
LoweringIsDone =
    (s : State Slot View) → Rule s → (keys : List KeyName) → AreKeysOf s keys → (i : ℕ) (key : KeyName) → get_elem? keys i ≡ some key →
    (id : ℕ) (me : Mine) → get_elem? s.views id ≡ some me.0 → (h : LatchRecord) → held_at (suc i) me.0.latches ≡ Some h →
    (ds : List Deed) (found left : ℕ) (slow obtrusive : Bool) →
    Rule (after_lowering s (suc i) ds found left (all_booked me.0.number ds h.book) slow obtrusive id me) →
    (a b : System Definition) → (told : IsTold s a) →
    (then_ : IsTold (after_lowering s (suc i) ds found left (all_booked me.0.number ds h.book) slow obtrusive id me) b) →
    Does me.0.number ds key told.0 then_.0 a b

-- the version of a key's place is written: the change of what is defined there is made
abbrev pub WritingIsDone : Type 0
WritingIsDone =
    (s : State Slot View) → Rule s → (keys : List KeyName) → AreKeysOf s keys → (i : ℕ) (key : KeyName) → get_elem? keys i ≡ some key →
    (id : ℕ) (me : Mine) → get_elem? s.views id ≡ some me.0 → (h : LatchRecord) → held_at (suc i) me.0.latches ≡ Some h →
    (change : Change) → Rule (after_writing s (suc i) (standing_after change h.book.standing) id me) →
    (a b : System Definition) → (told : IsTold s a) → (then_ : IsTold (after_writing s (suc i) (standing_after change h.book.standing) id me) b) →
    Redefines change key told.0 then_.0 a b

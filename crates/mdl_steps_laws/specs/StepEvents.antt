-- Each step that gives a latch back, lowers flags or writes a version is one event of the table's system, or leaves the system unchanged. The laws
-- require only that the session may make the step, and the rule.
use Rattle.std.specs.Prelude.{◌≡◌, ◌⊎◌, ℕ, suc, Bool, List, [], ◌∷◌, slice_set}
use Rattle.mdl_steps.specs.declared.slot.Slot.TheVariants as slot
use Rattle.mdl_steps_laws.specs.FirstWords.{Alter, AreKeysOf, BookView, Brings, Change, ChangeDefinition, Clone, Deed, Downgrade, Gain, Grant, HasDone, HasRedefined, KeyName, LatchRecord, Lose, Merge, Mine, Release, Rests, Rule, Slot, State, Ticket, Upgrade, VersionedDefinition, View, all_booked, flags_lowered, get_elem?, latch_word, lock_word, of_lock, redefined, some, standing_after, unlatched, version_word}

-- ---- the table after a step

-- a seat has given the latch of a place back, with a book, after deeds (the play `unlatched`)
abbrev pub after_put : State Slot View → ℕ → List Deed → BookView → ℕ → Mine → State Slot View
after_put s place ds book id me = record {
  words = slice_set s.words (latch_word place) 0;
  homes = slice_set s.homes place (some (slot.Place book));
  views = slice_set s.views id (unlatched place ds me).0;
}

-- a seat has lowered flags of a place, whose word was `found` before and is `left` afterwards, after deeds (the play `flags_lowered`)
abbrev pub after_lowering : State Slot View → ℕ → List Deed → ℕ → ℕ → BookView → Bool → Bool → ℕ → Mine → State Slot View
after_lowering s place ds found left book slow obtrusive id me = record {
  words = slice_set s.words (lock_word place) left;
  homes = s.homes;
  views = slice_set s.views id (flags_lowered place ds found book slow obtrusive me).0;
}

-- a seat has written the version of a place, which has this definition from then on (the play `redefined`)
abbrev pub after_writing : State Slot View → ℕ → VersionedDefinition → ℕ → Mine → State Slot View
after_writing s place standing id me = record {
  words = slice_set s.words (version_word place) standing.version;
  homes = s.homes;
  views = slice_set s.views id (redefined place standing me).0;
}

-- ---- what the step brings

-- the ticket is the session's, and has this number
abbrev pub IsOf : ℕ → ℕ → Ticket → Type 0
IsOf session number t = (t.session ≡ session) × (t.number ≡ number)

-- from one table to another a session does these deeds under a key, which are one event, or leave the system unchanged if there are none. A ticket that
-- it gains is granted or cloned, one that it alters is upgraded or downgraded, one that it loses is released, and one that takes the mode of another,
-- which is lost, is merged with that
abbrev pub BringsDeeds : ℕ → KeyName → List Deed → State Slot View → State Slot View → Type 0
BringsDeeds session key [] s s′ = Rests s s′
BringsDeeds session key (Gain number mode ∷ []) s s′ =
    let new : Ticket = record { session = session; number = number; mode = mode } in
    Brings (Grant (of_lock key new)) s s′ ⊎ ((t : Ticket) × (t.session ≡ session) × Brings (Clone (of_lock key t) (of_lock key new)) s s′)
BringsDeeds session key (Alter number mode ∷ []) s s′ =
    (t : Ticket) × IsOf session number t × (Brings (Upgrade (of_lock key t) mode) s s′ ⊎ Brings (Downgrade (of_lock key t) mode) s s′)
BringsDeeds session key (Lose number ∷ []) s s′ = (t : Ticket) × IsOf session number t × Brings (Release (of_lock key t)) s s′
BringsDeeds session key (Alter kept mode ∷ Lose lost ∷ []) s s′ =
    (t u : Ticket) × IsOf session kept t × IsOf session lost u × (u.mode ≡ mode) × Brings (Merge (of_lock key t) (of_lock key u)) s s′
BringsDeeds session key _ s s′ = ⊥

-- giving back the latch of a key's place, after deeds that the session may do by one step, is their event
abbrev pub PuttingBrings : Type 0
PuttingBrings =
    (s : State Slot View) → Rule s → (keys : List KeyName) → AreKeysOf s keys → (i : ℕ) (key : KeyName) → get_elem? keys i ≡ some key →
    (id : ℕ) (me : Mine) → get_elem? s.views id ≡ some me.0 → (h : LatchRecord) (ds : List Deed) → HasDone (suc i) ds h me →
    Rule (after_put s (suc i) ds (all_booked me.0.number ds h.book) id me) →
    BringsDeeds me.0.number key ds s (after_put s (suc i) ds (all_booked me.0.number ds h.book) id me)

-- lowering flags after such deeds is their event
abbrev pub LoweringBrings : Type 0
LoweringBrings =
    (s : State Slot View) → Rule s → (keys : List KeyName) → AreKeysOf s keys → (i : ℕ) (key : KeyName) → get_elem? keys i ≡ some key →
    (id : ℕ) (me : Mine) → get_elem? s.views id ≡ some me.0 → (h : LatchRecord) (ds : List Deed) → HasDone (suc i) ds h me →
    (found left : ℕ) (slow obtrusive : Bool) →
    Rule (after_lowering s (suc i) ds found left (all_booked me.0.number ds h.book) slow obtrusive id me) →
    BringsDeeds me.0.number key ds s (after_lowering s (suc i) ds found left (all_booked me.0.number ds h.book) slow obtrusive id me)

-- writing the version of a key's place, after a change that the session may make, changes the definition in the system
abbrev pub WritingBrings : Type 0
WritingBrings =
    (s : State Slot View) → Rule s → (keys : List KeyName) → AreKeysOf s keys → (i : ℕ) (key : KeyName) → get_elem? keys i ≡ some key →
    (id : ℕ) (me : Mine) → get_elem? s.views id ≡ some me.0 → (h : LatchRecord) (change : Change) → HasRedefined (suc i) h change me →
    Rule (after_writing s (suc i) (standing_after change h.book.standing) id me) →
    (t : Ticket) × (t.session ≡ me.0.number) × Brings (ChangeDefinition (of_lock key t) change) s (after_writing s (suc i) (standing_after change h.book.standing) id me)

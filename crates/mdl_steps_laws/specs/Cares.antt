-- What holds of the table's system between any two steps, since the table was reached by whole changes: numbers are in order, and each deadlock goes through
-- a session that has yet to search. A step that frees nothing forgets no waiter, and no waiter is forgotten where nobody owes a reschedule.
use Rattle.std.specs.Prelude.{◌≡◌, ℕ, ◌==◌, ◌&&◌, Bool, false, List, [], ◌∷◌, length, slice_index, Some}
use Rattle.mdl_system.specs.NumberingLaws.{IsWellNumbered}
use Rattle.mdl_steps_laws.specs.FirstWords.{Alter, DeadlocksGoThrough, Deed, Definition, Gain, HasNoDeadlock, HasPlace, IsDeadlock, IsTold, IsWholeChange, KeyName, LatchRecord, Lose, Makes, Mine, NoneForgotten, NoneForgottenAt, Reached, Rule, SeesNoDeadlock, Slot, State, Step, System, TableChange, View, get_elem?, held_at, latch_word, list_any, some, unsettled_state, wait_state, waits}
use Rattle.mdl_steps_laws.specs.EachStep.{IsKeyAt}

-- ---- numbers

-- the table's system is well-numbered: tickets are told apart by their sessions and numbers, and a session has one wait at most
abbrev pub ReachedTablesAreWellNumbered : Type 0
ReachedTablesAreWellNumbered = (s : State Slot View) → Reached s → (a : System Definition) → IsTold s a → IsWellNumbered a

-- ---- deadlocks

-- whether a session has yet to search for a deadlock: its wait is unsettled, and since the wait began it hasn't seen that it is in no deadlock
abbrev pub searching : State Slot View → ℕ → Bool
searching s session =
    wait_state (waits s session) == unsettled_state && list_any (λ (v : View). v.number == session && v.searches) s.views

-- each deadlock goes through a session that has yet to search
abbrev pub NoDeadlockIsUnseen : Type 0
NoDeadlockIsUnseen = (s : State Slot View) → Reached s → (a : System Definition) → IsTold s a → DeadlocksGoThrough (searching s) a

-- if no session whose wait is unsettled has yet to search, there is no deadlock
abbrev pub NoDeadlockOnceAllHaveSearched : Type 0
NoDeadlockOnceAllHaveSearched =
    (s : State Slot View) → Reached s →
    ((i : ℕ) (v : View) → get_elem? s.views i ≡ some v → wait_state (waits s v.number) ≡ unsettled_state → v.searches ≡ false) →
    (a : System Definition) → IsTold s a → HasNoDeadlock a

-- a session that sees no deadlock is in none
abbrev pub WhoSeesNoDeadlockIsInNone : Type 0
WhoSeesNoDeadlockIsInNone =
    (s : State Slot View) → Reached s → (id : ℕ) (m : Mine) → get_elem? s.views id ≡ some m.0 → SeesNoDeadlock (length s.homes) m →
    (a : System Definition) → IsTold s a → (cycle : List ℕ) → IsDeadlock a m.0.number cycle → ⊥

-- ---- waiters

-- no session owes the place a reschedule
abbrev pub IsPaid : State Slot View → ℕ → Type 0
IsPaid s place = (j : ℕ) (v : View) → get_elem? s.views j ≡ some v → list_any (λ p. p == place) v.owes ≡ false

-- no session that holds the latch of the place has lost or weakened a ticket there, or ended a lost wait, since it took the latch
abbrev pub IsUnfreed : State Slot View → ℕ → Type 0
IsUnfreed s place = (j : ℕ) (v : View) (h : LatchRecord) → get_elem? s.views j ≡ some v → held_at place v.latches ≡ Some h → h.freed ≡ false

-- where nobody owes a place a reschedule, and nothing was freed under its latch, no waiter for the key of the place could be granted
abbrev pub NobodyIsForgotten : Type 0
NobodyIsForgotten =
    (s : State Slot View) → Reached s → (place : ℕ) (key : KeyName) → IsKeyAt s place key → IsPaid s place → IsUnfreed s place →
    (a : System Definition) → IsTold s a → NoneForgottenAt a key

-- so if all latches are free, and nobody owes any place a reschedule, no waiter is forgotten at any key
abbrev pub NobodyIsForgottenAtRest : Type 0
NobodyIsForgottenAtRest =
    (s : State Slot View) → Reached s → ((place : ℕ) → HasPlace s place → slice_index s.words (latch_word place) ≡ 0) →
    ((j : ℕ) (v : View) → get_elem? s.views j ≡ some v → v.owes ≡ []) → (a : System Definition) → IsTold s a → NoneForgotten a

-- the deeds free nothing: there are none, or they are a grant, a clone or a merge. An upgrade isn't counted among these, as its mode may be weaker in part
abbrev pub DeedsFreeNothing : List Deed → Type 0
DeedsFreeNothing [] = Unit {0}
DeedsFreeNothing (Gain number mode ∷ []) = Unit {0}
DeedsFreeNothing (Alter kept mode ∷ Lose lost ∷ []) = Unit {0}
DeedsFreeNothing _ = ⊥

-- the step frees nothing, and opens no wait
abbrev pub FreesAndOpensNothing : {st : Step Slot} {m : Mine} {found : ℕ} {m′ : Mine} → Makes st m found m′ → Type 0
FreesAndOpensNothing (Makes.PutsLatch _ deeds _ _ _) = DeedsFreeNothing deeds
FreesAndOpensNothing (Makes.LowersFlags _ deeds _ _ _ _ _ _) = DeedsFreeNothing deeds
FreesAndOpensNothing (Makes.OpensWait _ _ _ _ _) = ⊥
FreesAndOpensNothing (Makes.EndsLost _ _ _ _ _ _) = ⊥
FreesAndOpensNothing (Makes.ReleasesFast _ _ _ _) = ⊥
FreesAndOpensNothing _ = Unit {0}

-- the change is such a step, or splits a seat off
abbrev pub TurnFreesAndOpensNothing : {s t : State Slot View} → TableChange s t → Type 0
TurnFreesAndOpensNothing (TableChange.Steps _ _ _ _ _ _ _ made _) = FreesAndOpensNothing made
TurnFreesAndOpensNothing (TableChange.Splits _ _ _ _ _ _ _ _) = Unit {0}

-- by such a change no waiter becomes forgotten, at any key
abbrev pub StepsThatFreeNothingForgetNobody : Type 0
StepsThatFreeNothingForgetNobody =
    (s t : State Slot View) → Rule s → Rule t → (turn : TableChange s t) → IsWholeChange turn → TurnFreesAndOpensNothing turn →
    (a b : System Definition) → IsTold s a → IsTold t b → (key : KeyName) → NoneForgottenAt a key → NoneForgottenAt b key

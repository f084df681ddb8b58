-- The results of a try for a fast ticket, and of its release. After MySQL 5.7, sql/mdl.cc: the fast paths of `MDL_context::try_acquire_lock_impl`
-- and `MDL_context::release_lock`.
use Rattle.std.specs.Prelude.{◌≡◌, ◌≢◌, ◌⊎◌, ◌<◌, ℕ, ◌+◌, Bool, true, false, List, [], ◌∷◌, ◌++◌, length, Option}
use Rattle.mdl_visits.specs.FirstWords.{AtItsTable, Deed, Gain, GrantFast, Lose, Mine, MissFast, Mode, ReleaseFast, SeatState, StepRecord, View, and_made, but_own, deeds_of, fast_own, lock_word, obtrusive_flag, owing, slow_flag}

-- ---- a fast ticket is granted

-- a view with one more fast ticket, which has its next number
abbrev pub with_fast : ℕ → Mode → Option ℕ → View → View
with_fast place mode noted v = record v { fast = v.fast ++ fast_own v.next place mode noted ∷ []; next = v.next + 1 }

-- the session was granted a fast ticket at a place, its steps did just this deed, and nothing else changed
pub record GrantsFast (place : ℕ) (mode : Mode) (noted : Option ℕ) (m m′ : Mine) : Type 0 where
  pub made : List StepRecord
  pub now : m′ ≡ and_made made (with_fast place mode noted m.0, m.1)
  pub did : deeds_of made ≡ Gain m.0.next mode ∷ []

-- a step that did this deed by a fast grant: the place's word, as it was just before, had the flag OBTRUSIVE down
pub record MeetsClear (place : ℕ) (deed : Deed) (e : StepRecord) : Type 0 where
  pub kind : e.kind ≡ GrantFast
  pub did : e.deeds ≡ deed ∷ []
  pub word : e.word ≡ lock_word place
  pub clear : obtrusive_flag e.found ≡ false

-- ---- no fast ticket is granted

-- a fast grant that missed: the step before it found this word with the flag OBTRUSIVE down, and it found another word of the place
pub record MissesAfter (place before : ℕ) (e : StepRecord) : Type 0 where
  pub kind : e.kind ≡ MissFast
  pub word : e.word ≡ lock_word place
  pub clear : obtrusive_flag before ≡ false
  pub other : e.found ≢ before

-- each of these steps is a fast grant that missed. The step before the first one found this word
abbrev pub AllMiss : ℕ → ℕ → List StepRecord → Type 0
AllMiss place before [] = Unit {0}
AllMiss place before (e ∷ later) = MissesAfter place before e × AllMiss place e.found later

-- the word that the last of some steps found. The step before them found this word
abbrev pub last_found : ℕ → List StepRecord → ℕ
last_found before [] = before
last_found before (e ∷ later) = last_found e.found later

-- a first fast grant at a place missed, and then `count` more, one after the other. The last step found this word, and nothing else changed
pub record Misses (place count word : ℕ) (m m′ : Mine) : Type 0 where
  pub first : StepRecord
  pub tries : List StepRecord
  pub now : m′ ≡ and_made (first ∷ tries) m
  pub did : deeds_of (first ∷ tries) ≡ []
  pub missed : (first.kind ≡ MissFast) × (first.word ≡ lock_word place)
  pub miss : AllMiss place first.found tries
  pub often : length tries ≡ count
  pub last : last_found first.found tries ≡ word

-- a first fast grant at a place missed, and then fewer than eight more. The last step found this word
abbrev pub MissesFew : ℕ → ℕ → Mine → Mine → Type 0
MissesFew place word m m′ = (n : ℕ) × (n < 8) × Misses place n word m m′

-- likewise, and the word has the flag OBTRUSIVE up
abbrev pub FindsObtrusive : ℕ → ℕ → Mine → Mine → Type 0
FindsObtrusive place word m m′ = MissesFew place word m m′ × (obtrusive_flag word ≡ true)

-- a fast grant did this deed as the last step. It was the first step, too, or a first one missed, and then fewer than eight more: the word that was found
-- last was still there
abbrev pub GrantsAtLast : ℕ → Deed → Mine → Mine → Type 0
GrantsAtLast place deed m m′ =
    (mid : Mine) × (e : StepRecord) × ((mid ≡ m) ⊎ MissesFew place e.found m mid) × (m′.0.log ≡ mid.0.log ++ e ∷ []) × MeetsClear place deed e

-- the session was granted a fast ticket with its next number in this way
abbrev pub WasGrantedFast : ℕ → Mode → Option ℕ → SeatState → SeatState → Type 0
WasGrantedFast place mode noted s s′ = AtItsTable s s′ (GrantsFast place mode noted) × GrantsAtLast place (Gain s.me.0.next mode) s.me s′.me

-- ---- it is released

-- the session released its fast ticket with this number at a place by one step. Waits there may have become grantable (`owes`) if the word that the step
-- found had the flag SLOW up: then the session owes the place a reschedule. Nothing else changed
pub record ReleasesFast (place number : ℕ) (owes : Bool) (m m′ : Mine) : Type 0 where
  pub step : StepRecord
  pub now : m′ ≡ and_made (step ∷ []) (record m.0 { fast = but_own place number m.0.fast; owes = owing place step.found m.0.owes }, m.1)
  pub kind : step.kind ≡ ReleaseFast
  pub did : step.deeds ≡ Lose number ∷ []
  pub word : step.word ≡ lock_word place
  pub owes_is : owes ≡ slow_flag step.found

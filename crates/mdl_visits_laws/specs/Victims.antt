-- The victim of a search for a deadlock, by the table's system just before the step that settles the victim's wait.
--
-- A search judges by the books of all places and by the words of the waits there. While the session has the latches, the books can't change, so the
-- requests and the granted tickets that it judges by stand. But any session may settle a wait at any time. So the waits of members that the search met
-- unsettled may be lost by then, and what it found is a standing deadlock.
use Rattle.std.specs.Prelude.{◌≡◌, ℕ, List, length, All, Contains, IsFalse, IsTrue, Some}
use Rattle.mdl_calls.specs.declared.answers.Search.TheVariants.{Victim}
use Rattle.mdl_steps.specs.declared.step_kind.StepKind.TheVariants.{ReadWait}
use Rattle.mdl_visits_laws.specs.Prelude.{AsksDirectory, Definition, IsDeadlock, IsStandingDeadlock, IsStandingVictimOf, IsTold, IsVictimOf, IsWholeChange, KeyName, Keys, MakesOneStep, Reached, Requests, Searched, SeatState, SettlesVictim, Slot, State, StepRecord, System, TableChange, Unsettled, View, WaitRead, Waiter, Wishes, is_chosen_before, settled_by, wait_word}

-- ---- what a search did

-- the contract of a search says this, by the seat before and after it, if the wait of this victim was settled
abbrev pub SettlesAVictim : ℕ → SeatState → SeatState → Type 0
SettlesAVictim victim old new = AsksDirectory old new (λ k. Searched old.table old.me.0.number k (Victim victim) old.me new.me)

-- what such a search knows: the directory's keys, by the record of its latch, and the words of waits that it judged by
abbrev pub victim_keys : (victim : ℕ) (old new : SeatState) → SettlesAVictim victim old new → Keys
victim_keys victim old new found = found.0

abbrev pub victim_words : (victim : ℕ) (old new : SeatState) → SettlesAVictim victim old new → List WaitRead
victim_words victim old new found = found.2.judges.words

-- and how it settled the victim's wait
abbrev pub settling_of : (victim : ℕ) (old new : SeatState) → (found : SettlesAVictim victim old new)
    → SettlesVictim old.table.slots victim found.2.moment.held old.me new.me
settling_of victim old new found = found.2.judges.outcome.1

-- ---- the victim

-- a step in the view's list read this word, while the session had just the latches that it has now
abbrev pub WasReadBefore : ℕ → View → WaitRead → Type 0
WasReadBefore slots v r =
    (e : StepRecord) × Contains v.log e × (e.kind ≡ ReadWait) × (e.word ≡ wait_word slots r.session) × (e.found ≡ r.word.0) × (e.held ≡ v.latches)

-- the session has the directory's latch, with this record of it, and has read these words under just the latches that it has now
abbrev pub HasReadAll : ℕ → Keys → List WaitRead → View → Type 0
HasReadAll slots k words v = (v.directory ≡ Some k) × All (WasReadBefore slots v) words

-- the waits of all these sessions are unsettled
abbrev pub AllWait : System Definition → List ℕ → Type 0
AllWait system sessions =
    (session : ℕ) → Contains sessions session → (key : KeyName) (w : Waiter) → Requests system session key w → w.state ≡ Unsettled

-- in this system the victim, whose wait has this number, is the right one in a standing deadlock through a session:
-- * The deadlock's sessions, from that session on, are distinct. Each has a request that stands behind the next one's session (`standing`).
-- * By the words that the search judged by, none of their waits was settled (`met_open`).
-- * The victim is one of them. No request of another weighs less, and of those that weigh the same its number is the greatest (`falls`).
-- * The victim's wait is unsettled (`wishes`).
-- * If the others' waits are, too, this is a deadlock, and the victim is the one that it has in the space of one thread (`all_wait`).
-- * No deadlock through the session is chosen before this one if the words were met in time (`chosen`).
pub record FallsInDeadlock (system : System Definition) (who victim number : ℕ) (words : List WaitRead) (InTime : Type 0) : Type 0 where
  pub cycle : List ℕ
  pub standing : IsStandingDeadlock system who cycle
  pub met_open : (session : ℕ) → Contains cycle session → IsFalse (settled_by words session)
  pub falls : IsStandingVictimOf system cycle victim
  pub key : KeyName
  pub wish : Waiter
  pub wishes : Wishes system victim key wish
  pub number_is : wish.wait ≡ number
  pub all_wait : AllWait system cycle → IsDeadlock system who cycle × IsVictimOf system cycle victim
  pub chosen : InTime → (other : List ℕ) → IsDeadlock system who other → IsTrue (is_chosen_before cycle other)

-- ---- the law

-- whatever other sessions do meanwhile: if the table is reached, and a session's next step is the one by which its search settles the wait of a victim, the
-- victim is the right one in the table's system before that step
abbrev pub VictimsFallInStandingDeadlocks : Type 0
VictimsFallInStandingDeadlocks =
    (victim : ℕ) (old new : SeatState) → (found : SettlesAVictim victim old new) →
    (s t : State Slot View) → Reached s → old.table.slots ≡ length s.homes → (turn : TableChange s t) → IsWholeChange turn →
    (seat : ℕ) → (step : MakesOneStep s t seat (settling_of victim old new found).moment) → (a : System Definition) → IsTold s a →
    FallsInDeadlock a old.me.0.number victim (settling_of victim old new found).wait (victim_words victim old new found)
    (HasReadAll old.table.slots (victim_keys victim old new found) (victim_words victim old new found) step.old)

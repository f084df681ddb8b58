-- Each step that a session may make is one event of the table's system, or leaves the system unchanged. Its kind decides which event it is. If the
-- step is at a place, the event is one of the place's key.
use Rattle.std.specs.Prelude.{◌≡◌, ◌≢◌, ◌⊎◌, ℕ, suc, ◌+◌, List, [], Some}
pub use Rattle.mdl_steps.specs.TableChanges.{Gives, HasLatch, IsWhole, IsWholeChange, Meets, Swaps, Takes, Writes}
use Rattle.mdl_steps_laws.specs.FirstWords.{AreKeysOf, Ask, BeginWait, Brings, ChangeDefinition, Deed, Definition, EndGrantedWait, EndLostWait, Grant, GrantWaiter, IsTold, KeyName, Loss, Makes, Mine, Release, Rests, Rule, SameSystem, SettleLost, Slot, State, Step, System, SystemStep, TableChange, Ticket, Unsettled, View, WaitState, applied, asked_ticket, code_of, get_elem?, lost_as, lost_state, of_lock, some, unsettled_state, wait_in}
use Rattle.mdl_steps_laws.specs.StepEvents.{BringsDeeds, IsOf}

-- ---- what it does in the system

-- a key has this place
abbrev pub IsKeyAt : State Slot View → ℕ → KeyName → Type 0
IsKeyAt s place key = (keys : List KeyName) × AreKeysOf s keys × ((i : ℕ) × (place ≡ suc i) × (get_elem? keys i ≡ some key))

-- the place has a key, for which `P` holds
abbrev pub Under : State Slot View → ℕ → (KeyName → Type 0) → Type 0
Under s place P = (key : KeyName) × IsKeyAt s place key × P key

-- `P` holds if the exchange found the expected word. Otherwise the system is unchanged
abbrev pub IfMet : ℕ → ℕ → Type 0 → State Slot View → State Slot View → Type 0
IfMet expected found P s t = (found ≡ expected → P) × (found ≢ expected → Rests s t)

-- these deeds of a session at a place are one event under the place's key. If there are none, the system is unchanged
abbrev pub BringsDeedsAt : ℕ → ℕ → List Deed → State Slot View → State Slot View → Type 0
BringsDeedsAt session place [] s t = Rests s t
BringsDeedsAt session place deeds s t = Under s place (λ key. BringsDeeds session key deeds s t)

-- the event that each kind of step is. The kinds that aren't named leave the system unchanged
abbrev pub BringsOrRests : (s t : State Slot View) → {st : Step Slot} {m : Mine} {found : ℕ} {m′ : Mine} → Makes st m found m′ → Type 0
BringsOrRests s t {st} {m} (Makes.PutsLatch place deeds _ _ _) = BringsDeedsAt m.0.number place deeds s t
BringsOrRests s t {st} {m} (Makes.LowersFlags place deeds _ _ _ _ _ _) = BringsDeedsAt m.0.number place deeds s t
BringsOrRests s t {st} {m} (Makes.WritesVersion place may _ _) =
    Under s place (λ key. (x : Ticket) × (x.session ≡ m.0.number) × Brings (ChangeDefinition (of_lock key x) may.1) s t)
BringsOrRests s t {st} {m} (Makes.OpensWait place mode _ _ _) =
    Under s place (λ key. Brings (BeginWait key (record { ticket = asked_ticket mode m.0; wait = m.0.waits + 1; state = Unsettled })) s t)
BringsOrRests s t {st} {m} {found} (Makes.SettlesLost session number state _ _ _ _) = IfMet (wait_in number unsettled_state) found (
    (key : KeyName) × (x : Ticket) × (how : Loss) × (x.session ≡ session) × (state ≡ lost_state how)
    × Brings (SettleLost key (record { ticket = x; wait = number; state = Unsettled }) (lost_as how)) s t
    ) s t
BringsOrRests s t {st} {m} {found} (Makes.SettlesGranted place ticket session number _ _ _) = IfMet (wait_in number unsettled_state) found (Under s place (λ key.
    (x : Ticket) × IsOf session ticket x × Brings (GrantWaiter key (record { ticket = x; wait = number; state = Unsettled })) s t)) s t
BringsOrRests s t {st} {m} (Makes.EndsGranted _ _) =
    (a : Ask) × (m.0.asks ≡ Some a) × Brings (EndGrantedWait (record { session = m.0.number; wait = m.0.waits; ticket = a.number })) s t
BringsOrRests s t {st} {m} (Makes.EndsLost a state _ _ _ _) = Under s a.place (λ key.
    let asked : Ticket = record { session = m.0.number; number = a.number; mode = a.mode } in
    (how : WaitState) × (code_of how ≡ state) × Brings (EndLostWait key (record { ticket = asked; wait = m.0.waits; state = how })) s t)
BringsOrRests s t {st} {m} {found} (Makes.GrantsFast place mode _ _ _) =
    IfMet st.first found (Under s place (λ key. Brings (Grant (of_lock key (record { session = m.0.number; number = m.0.next; mode = mode }))) s t)) s t
BringsOrRests s t {st} {m} (Makes.ReleasesFast place number _ _) =
    Under s place (λ key. (x : Ticket) × IsOf m.0.number number x × Brings (Release (of_lock key x)) s t)
BringsOrRests s t _ = Rests s t

-- the same for a change. Splitting a seat off leaves the system unchanged
abbrev pub TurnBrings : {s t : State Slot View} → TableChange s t → Type 0
TurnBrings {s} {t} (TableChange.Steps _ _ _ _ _ _ _ made _) = BringsOrRests s t made
TurnBrings {s} {t} (TableChange.Splits _ _ _ _ _ _ _ _) = Rests s t

-- ---- the law

-- each whole change is one event or leaves the system unchanged, as its kind of step says. The rule holds before and after, as it does between any two
-- steps
abbrev pub EachStepIsOneEvent : Type 0
EachStepIsOneEvent = (s t : State Slot View) → Rule s → Rule t → (turn : TableChange s t) → IsWholeChange turn → TurnBrings turn

-- in short: whichever systems the table has before and after a whole change, one event leads from one to the other, or they are the same
abbrev pub EachStepHappensOrRests : Type 0
EachStepHappensOrRests =
    (s t : State Slot View) → Rule s → Rule t → (turn : TableChange s t) → IsWholeChange turn → (a b : System Definition) → IsTold s a → IsTold t b →
    SystemStep (λ (at : KeyName). applied at.namespace) a b ⊎ SameSystem a b

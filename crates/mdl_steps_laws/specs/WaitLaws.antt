-- The steps on wait words are events of the table's system. A step changes the word, or only reads it. Opening a wait, granting one, and ending a lost
-- one change the record of the place's latch, too. What the session writes into the book in hand before or after the step is no part of the system.
use Rattle.std.specs.Prelude.{◌≡◌, ℕ, suc, ◌+◌, ◌<◌, true, length, List, Some, slice_set}
use Rattle.mdl_book.specs.Books as books
use Rattle.mdl_steps.specs.declared.wait_word.Loss.TheVariants as loss
use Rattle.std.specs.FinSet as set
use Rattle.std.specs.Ordering.{nat_cmp}
use Rattle.mdl_steps_laws.specs.Prelude.{Ask, BeginWait, Change, Definition, EndGrantedWait, EndLostWait, Event, GrantWaiter, Happens, KeyName, Killed, LatchRecord, Loss, MayCancel, MayGrant, MayOpen, Mine, Mode, Rule, SameSystem, SettleLost, Slot, State, StepKind, System, Ticket, TimedOut, Unsettled, Victim, View, WaitState, applied, asked_ticket, ended_granted, ended_lost, get_elem?, granted_state, held_at, idle_state, lost_state, met_wait_by, opened, settled_granted, settled_lost, some, unsettled_state, wait_in, wait_word, waits}
use Rattle.mdl_steps_laws.specs.Locks.{Lock, AreKeysOf, AreLocksOf, Tells}
use Rattle.mdl_steps_laws.specs.WaitsTold.{TellsWaits, code_of}

-- ---- what is done

-- the table has this system, with its waits
abbrev pub IsTold : State Slot View → System Definition → Type 0
IsTold s system = (locks : KeyName → Lock) × AreLocksOf s locks × Tells locks system × TellsWaits s system

-- an event leads from one table to another: the rule holds of the second, and whichever systems the two have, the event happens between these
abbrev pub Brings : Event Change → State Slot View → State Slot View → Type 0
Brings event s s′ =
    Rule s′ × ((a b : System Definition) → IsTold s a → IsTold s′ b → Happens (λ (at : KeyName). applied at.namespace) event a b)

-- the system is unchanged from one table to another: the rule holds of the second, and whichever systems the two have, they are the same
abbrev pub Rests : State Slot View → State Slot View → Type 0
Rests s s′ = Rule s′ × ((a b : System Definition) → IsTold s a → IsTold s′ b → SameSystem a b)

-- the table after a step of a seat that made this the wait word of a session
abbrev pub after_wait : State Slot View → ℕ → ℕ → ℕ → Mine → State Slot View
after_wait s session word id me = record {
  words = slice_set s.words (wait_word (length s.homes) session) word;
  homes = s.homes;
  views = slice_set s.views id me.0;
}

-- the state of a wait that was lost in this way
abbrev pub lost_as : Loss → WaitState
lost_as loss.Victim = Victim
lost_as loss.Timeout = TimedOut
lost_as loss.Killed = Killed

-- ---- the laws

-- opening a wait under the latch of its place begins it in the system: its ticket is added to the end of the waiting tickets
abbrev pub OpeningBegins : Type 0
OpeningBegins =
    (s : State Slot View) → Rule s → (keys : List KeyName) → AreKeysOf s keys → (i : ℕ) (key : KeyName) → get_elem? keys i ≡ some key →
    (id : ℕ) (me : Mine) → get_elem? s.views id ≡ some me.0 → (mode : Mode) (h : LatchRecord) → MayOpen (suc i) mode h me →
    Brings (BeginWait key (record { ticket = asked_ticket mode me.0; wait = me.0.waits + 1; state = Unsettled }))
    s (after_wait s me.0.number (wait_in (me.0.waits + 1) unsettled_state) id (opened (length s.homes) (suc i) mode me))

-- settling an unsettled wait as lost, which needs no latch, loses it in the system. Its ticket stays among the waiting tickets of some key
abbrev pub SettlingLoses : Type 0
SettlingLoses =
    (s : State Slot View) → Rule s → (id : ℕ) (me : Mine) → get_elem? s.views id ≡ some me.0 →
    (session number : ℕ) → 0 < session → waits s session ≡ wait_in number unsettled_state → (how : Loss) →
    (key : KeyName) × (ticket : Ticket) × (ticket.session ≡ session)
    × Brings (SettleLost key (record { ticket = ticket; wait = number; state = Unsettled }) (lost_as how))
    s (after_wait s session (wait_in number (lost_state how)) id (settled_lost (length s.homes) session number (lost_state how) me))

-- granting an unsettled wait under the latch of its place grants the waiter in the system
abbrev pub GrantingGrantsWaiters : Type 0
GrantingGrantsWaiters =
    (s : State Slot View) → Rule s → (keys : List KeyName) → AreKeysOf s keys → (i : ℕ) (key : KeyName) → get_elem? keys i ≡ some key →
    (id : ℕ) (me : Mine) → get_elem? s.views id ≡ some me.0 →
    (session ticket number : ℕ) (h : LatchRecord) → (may : MayGrant (suc i) session ticket h me) → 0 < session → waits s session ≡ wait_in number unsettled_state →
    Brings (GrantWaiter key (record { ticket = may.wish; wait = number; state = Unsettled }))
    s (after_wait s session (wait_in number granted_state) id (settled_granted (length s.homes) (suc i) session ticket number me))

-- the waiting ticket that a search of the book finds next may be granted, if the search uses the noted word while the flag OBTRUSIVE is up
abbrev pub NextMayBeGranted : Type 0
NextMayBeGranted =
    (s : State Slot View) → Rule s → (keys : List KeyName) → AreKeysOf s keys → (i : ℕ) (key : KeyName) → get_elem? keys i ≡ some key →
    (id : ℕ) (me : Mine) → get_elem? s.views id ≡ some me.0 → (h : LatchRecord) → held_at (suc i) me.0.latches ≡ Some h →
    (word : ℕ) → (h.obtrusive ≡ true → h.noted ≡ Some word) →
    (unsettled : set.FinSet nat_cmp) (t : Ticket) → books.next_grantable word unsettled h.book ≡ Some t →
    (may : MayGrant (suc i) t.session t.number h me) × (may.wish ≡ t)

-- ending a wait that was met granted ends a granted wait in the system: from then on its session holds the ticket that it requested
abbrev pub EndingHolds : Type 0
EndingHolds =
    (s : State Slot View) → Rule s → (id : ℕ) (me : Mine) → get_elem? s.views id ≡ some me.0 → 0 < me.0.number → me.0.told ≡ Some granted_state →
    (a : Ask) × (me.0.asks ≡ Some a)
    × Brings (EndGrantedWait (record { session = me.0.number; wait = me.0.waits; ticket = a.number }))
    s (after_wait s me.0.number (wait_in me.0.waits idle_state) id (ended_granted (length s.homes) me))

-- ending a wait that was met lost, under the latch of its place, ends a wait in the system that was lost in the same way: its ticket is removed
abbrev pub EndingLeaves : Type 0
EndingLeaves =
    (s : State Slot View) → Rule s → (keys : List KeyName) → AreKeysOf s keys → (i : ℕ) (key : KeyName) → get_elem? keys i ≡ some key →
    (id : ℕ) (me : Mine) → get_elem? s.views id ≡ some me.0 → (h : LatchRecord) → (may : MayCancel (suc i) h me) →
    (how : WaitState) × (code_of how ≡ may.state)
    × Brings (EndLostWait key (record {
      ticket = record { session = me.0.number; number = may.ask.number; mode = may.ask.mode };
      wait = me.0.waits;
      state = how;
    })) s (after_wait s me.0.number (wait_in me.0.waits idle_state) id (ended_lost (length s.homes) (suc i) may.ask.number may.state me))

-- reading a wait word, or meeting one that isn't the word to be settled, leaves the system unchanged
abbrev pub MeetingRests : Type 0
MeetingRests =
    (s : State Slot View) → Rule s → (id : ℕ) (me : Mine) → get_elem? s.views id ≡ some me.0 → (session : ℕ) (kind : StepKind) →
    Rests s (after_wait s session (waits s session) id (met_wait_by kind (length s.homes) session (waits s session) me))

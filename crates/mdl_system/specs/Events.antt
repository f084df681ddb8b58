-- The steps of the system of locks, by cases, after MySQL 5.7: what `MDL_context` and `MDL_lock` of sql/mdl.cc do to it. Each
-- case says when it can happen, what changes, and that everything else stays the same.
use Rattle.std.specs.Prelude.{◌≡◌, ◌≢◌, ◌⊎◌, ◌↔◌, ℕ, ◌+◌, List, [], ◌∷◌, ◌++◌, Option, Some, Contains}
use Rattle.mdl_key.specs.declared.mode.Mode.{Mode}
use Rattle.mdl_key.specs.declared.mode.Mode.TheVariants.{X}
use Rattle.mdl_key.specs.Words.{IsAtLeast, KeyName}
use Rattle.mdl_system.specs.Strength.{downgrades}
use Rattle.mdl_system.specs.Systems.{WaitState, Unsettled, Holding, Waiter, GrantedWait, System, lock_kind, Held, HasNoWait, IsGrantable}

-- ---- what may change in a list

-- the two lists have the same members
abbrev pub SameMembers : {T : Type 0} → List T → List T → Type 0
SameMembers {T} old new = (x : T) → Contains new x ↔ Contains old x

-- the new list has the old members and this one
abbrev pub Gains : {T : Type 0} → T → List T → List T → Type 0
Gains {T} gained old new = (x : T) → Contains new x ↔ (Contains old x ⊎ (x ≡ gained))

-- the new list has the old members except this one
abbrev pub Loses : {T : Type 0} → T → List T → List T → Type 0
Loses {T} lost old new = (x : T) → Contains new x ↔ (Contains old x × (x ≢ lost))

-- the new list has the old members except one, and another instead
abbrev pub Replaces : {T : Type 0} → T → T → List T → List T → Type 0
Replaces {T} lost gained old new = (x : T) → Contains new x ↔ ((Contains old x × (x ≢ lost)) ⊎ (x ≡ gained))

-- the new list is the old one without this element, in the same order
abbrev pub LeavesOrder : {T : Type 0} → T → List T → List T → Type 0
LeavesOrder {T} gone old new =
    (before : List T) × (after : List T) × (old ≡ before ++ gone ∷ after) × (new ≡ before ++ after)

-- the new list is the old one with another element at the position of this one
abbrev pub TakesTurn : {T : Type 0} → T → T → List T → List T → Type 0
TakesTurn {T} gone come old new =
    (before : List T) × (after : List T) × (old ≡ before ++ gone ∷ after) × (new ≡ before ++ come ∷ after)

-- ---- what stays

-- nothing has changed for any other key
abbrev pub SameElsewhere : {T : Type 0} → KeyName → (KeyName → T) → (KeyName → T) → Type 0
SameElsewhere key old new = (other : KeyName) → other ≢ key → new other ≡ old other

-- nothing has changed for any key
abbrev pub SameAt : {T : Type 0} → (KeyName → T) → (KeyName → T) → Type 0
SameAt old new = (key : KeyName) → new key ≡ old key

-- the same tickets wait, and the same granted waits aren't ended
pub record SameWaits {D : Type 0} (a b : System D) : Type 0 where
  pub waiting : SameAt a.waiting b.waiting
  pub unended : SameMembers a.unended b.unended

-- two systems are the same
pub record SameSystem {D : Type 0} (a b : System D) : Type 0 where
  pub granted : SameMembers a.granted b.granted
  pub waits : SameWaits a b
  pub definitions : SameAt a.definitions b.definitions

-- nothing but the granted tickets may have changed
pub record ElseSame {D : Type 0} (a b : System D) : Type 0 where
  pub waits : SameWaits a b
  pub definitions : SameAt a.definitions b.definitions

-- ---- tickets

-- a number that none of the session's granted tickets has
abbrev pub IsNewNumber : {D : Type 0} → System D → ℕ → ℕ → Type 0
IsNewNumber system session number =
    (held : Holding) → Contains system.granted held → held.session ≡ session → held.number ≢ number

-- a ticket in another mode
abbrev pub in_mode : Mode → Holding → Holding
in_mode mode ticket = record ticket { mode = mode }

-- the holding that a waiting ticket of a key becomes once it is granted
abbrev pub granted_ticket : KeyName → Waiter → Holding
granted_ticket key waiter = record {
  session = waiter.ticket.session;
  number = waiter.ticket.number;
  key = key;
  mode = waiter.ticket.mode;
}

-- the granted wait that its wait becomes
abbrev pub granted_wait : Waiter → GrantedWait
granted_wait waiter = record { session = waiter.ticket.session; wait = waiter.wait; ticket = waiter.ticket.number }

-- ---- the cases

-- a session without a wait is granted a new ticket, if its request is grantable
pub record GrantsNew {D : Type 0} (ticket : Holding) (a b : System D) : Type 0 where
  pub free : HasNoWait a ticket.session
  pub new_number : IsNewNumber a ticket.session ticket.number
  pub grantable : IsGrantable a ticket.session ticket.key ticket.mode
  pub granted : Gains ticket a.granted b.granted
  pub rest : ElseSame a b

-- a session without a wait is granted a second ticket besides one that it holds, of the same key and of a mode that the first
-- is at least as strong as; waiting tickets don't block it
pub record ClonesTicket {D : Type 0} (first second : Holding) (a b : System D) : Type 0 where
  pub free : HasNoWait a second.session
  pub new_number : IsNewNumber a second.session second.number
  pub held : Held a second.session first
  pub same_key : second.key ≡ first.key
  pub at_least : IsAtLeast (lock_kind first.key) first.mode second.mode
  pub granted : Gains second a.granted b.granted
  pub rest : ElseSame a b

-- a session without a wait begins one: its new ticket is added at the end of the waiting ones
pub record BeginsWait {D : Type 0} (key : KeyName) (waiter : Waiter) (a b : System D) : Type 0 where
  pub free : HasNoWait a waiter.ticket.session
  pub new_number : IsNewNumber a waiter.ticket.session waiter.ticket.number
  pub unsettled : waiter.state ≡ Unsettled
  pub joins : b.waiting key ≡ a.waiting key ++ waiter ∷ []
  pub elsewhere : SameElsewhere key a.waiting b.waiting
  pub granted : SameMembers a.granted b.granted
  pub unended : SameMembers a.unended b.unended
  pub definitions : SameAt a.definitions b.definitions

-- an unsettled waiting ticket becomes granted, if its request is grantable; its wait is then granted and not ended
pub record GrantsWaiter {D : Type 0} (key : KeyName) (waiter : Waiter) (a b : System D) : Type 0 where
  pub unsettled : waiter.state ≡ Unsettled
  pub grantable : IsGrantable a waiter.ticket.session key waiter.ticket.mode
  pub leaves : LeavesOrder waiter (a.waiting key) (b.waiting key)
  pub elsewhere : SameElsewhere key a.waiting b.waiting
  pub granted : Gains (granted_ticket key waiter) a.granted b.granted
  pub unended : Gains (granted_wait waiter) a.unended b.unended
  pub definitions : SameAt a.definitions b.definitions

-- an unsettled wait is lost: its session is the victim, its time is over, or it is killed. Its ticket keeps its position
pub record SettlesLost {D : Type 0} (key : KeyName) (waiter : Waiter) (how : WaitState) (a b : System D) : Type 0 where
  pub unsettled : waiter.state ≡ Unsettled
  pub lost : how ≢ Unsettled
  pub settled : TakesTurn waiter (record waiter { state = how }) (a.waiting key) (b.waiting key)
  pub elsewhere : SameElsewhere key a.waiting b.waiting
  pub granted : SameMembers a.granted b.granted
  pub unended : SameMembers a.unended b.unended
  pub definitions : SameAt a.definitions b.definitions

-- a session ends a granted wait: from now on it holds the ticket
pub record EndsGrantedWait {D : Type 0} (wait : GrantedWait) (a b : System D) : Type 0 where
  pub stands : Contains a.unended wait
  pub unended : Loses wait a.unended b.unended
  pub granted : SameMembers a.granted b.granted
  pub waiting : SameAt a.waiting b.waiting
  pub definitions : SameAt a.definitions b.definitions

-- a session ends a lost wait: the ticket is removed
pub record EndsLostWait {D : Type 0} (key : KeyName) (waiter : Waiter) (a b : System D) : Type 0 where
  pub settled : waiter.state ≢ Unsettled
  pub leaves : LeavesOrder waiter (a.waiting key) (b.waiting key)
  pub elsewhere : SameElsewhere key a.waiting b.waiting
  pub granted : SameMembers a.granted b.granted
  pub unended : SameMembers a.unended b.unended
  pub definitions : SameAt a.definitions b.definitions

-- a session releases a ticket
pub record Releases {D : Type 0} (ticket : Holding) (a b : System D) : Type 0 where
  pub held : Held a ticket.session ticket
  pub granted : Loses ticket a.granted b.granted
  pub rest : ElseSame a b

-- a session without a wait changes a ticket to a new mode, if its request for that mode is grantable
pub record Upgrades {D : Type 0} (ticket : Holding) (mode : Mode) (a b : System D) : Type 0 where
  pub free : HasNoWait a ticket.session
  pub held : Held a ticket.session ticket
  pub grantable : IsGrantable a ticket.session ticket.key mode
  pub granted : Replaces ticket (in_mode mode ticket) a.granted b.granted
  pub rest : ElseSame a b

-- a session without a wait makes one ticket of two of a key: the old one gets the mode of the new one, which is at least as
-- strong and is removed
pub record Merges {D : Type 0} (old new : Holding) (a b : System D) : Type 0 where
  pub free : HasNoWait a old.session
  pub old_held : Held a old.session old
  pub new_held : Held a old.session new
  pub two : old ≢ new
  pub same_key : new.key ≡ old.key
  pub at_least : IsAtLeast (lock_kind old.key) new.mode old.mode
  pub granted : (ticket : Holding) →
      Contains b.granted ticket
      ↔ ((Contains a.granted ticket × (ticket ≢ old) × (ticket ≢ new)) ⊎ (ticket ≡ in_mode new.mode old))
  pub rest : ElseSame a b

-- a session changes a ticket to a weaker mode
pub record Downgrades {D : Type 0} (ticket : Holding) (mode : Mode) (a b : System D) : Type 0 where
  pub held : Held a ticket.session ticket
  pub weaker : Contains (downgrades ticket.mode) mode
  pub granted : Replaces ticket (in_mode mode ticket) a.granted b.granted
  pub rest : ElseSame a b

-- a session that holds a key exclusively changes its definition, and the version grows by one. `apply` returns the new
-- definition for the old one; it returns `None` if the change is refused
pub record ChangesDefinition {C D : Type 0} (apply : KeyName → C → Option D → Option (Option D)) (ticket : Holding) (change : C) (a b : System D) : Type 0 where
  pub held : Held a ticket.session ticket
  pub exclusive : ticket.mode ≡ X
  pub applied : apply ticket.key change (a.definitions ticket.key).definition ≡ Some (b.definitions ticket.key).definition
  pub counted : (b.definitions ticket.key).version ≡ (a.definitions ticket.key).version + 1
  pub elsewhere : SameElsewhere ticket.key a.definitions b.definitions
  pub granted : SameMembers a.granted b.granted
  pub waits : SameWaits a b

-- ---- steps

-- the events that can happen, each with the tickets and waits that it is about; `C` are the changes of definitions
pub data Event (C : Type 0) : Type 0 where
  Grant : Holding → Event C
  Clone : Holding → Holding → Event C
  BeginWait : KeyName → Waiter → Event C
  GrantWaiter : KeyName → Waiter → Event C
  SettleLost : KeyName → Waiter → WaitState → Event C
  EndGrantedWait : GrantedWait → Event C
  EndLostWait : KeyName → Waiter → Event C
  Release : Holding → Event C
  Upgrade : Holding → Mode → Event C
  Merge : Holding → Holding → Event C
  Downgrade : Holding → Mode → Event C
  ChangeDefinition : Holding → C → Event C

-- an event leads from one system to another
abbrev pub Happens : {C D : Type 0} → (KeyName → C → Option D → Option (Option D)) → Event C → System D → System D → Type 0
Happens apply (Grant ticket) a b = GrantsNew ticket a b
Happens apply (Clone first second) a b = ClonesTicket first second a b
Happens apply (BeginWait key waiter) a b = BeginsWait key waiter a b
Happens apply (GrantWaiter key waiter) a b = GrantsWaiter key waiter a b
Happens apply (SettleLost key waiter how) a b = SettlesLost key waiter how a b
Happens apply (EndGrantedWait wait) a b = EndsGrantedWait wait a b
Happens apply (EndLostWait key waiter) a b = EndsLostWait key waiter a b
Happens apply (Release ticket) a b = Releases ticket a b
Happens apply (Upgrade ticket mode) a b = Upgrades ticket mode a b
Happens apply (Merge old new) a b = Merges old new a b
Happens apply (Downgrade ticket mode) a b = Downgrades ticket mode a b
Happens apply (ChangeDefinition ticket change) a b = ChangesDefinition apply ticket change a b

-- a step of the system: an event happens
abbrev pub Step : {C D : Type 0} → (KeyName → C → Option D → Option (Option D)) → System D → System D → Type 0
Step {C} apply a b = (event : Event C) × Happens apply event a b

-- a run: these events happen one after the other
abbrev pub Run : {C D : Type 0} → (KeyName → C → Option D → Option (Option D)) → List (Event C) → System D → System D → Type 0
Run apply [] a b = SameSystem a b
Run {C} {D} apply (event ∷ events) a b = (between : System D) × Happens apply event a between × Run apply events between b

-- the session whose tickets or wait an event is about
abbrev pub session_of : {C : Type 0} → Event C → ℕ
session_of (Grant ticket) = ticket.session
session_of (Clone first second) = second.session
session_of (BeginWait key waiter) = waiter.ticket.session
session_of (GrantWaiter key waiter) = waiter.ticket.session
session_of (SettleLost key waiter how) = waiter.ticket.session
session_of (EndGrantedWait wait) = wait.session
session_of (EndLostWait key waiter) = waiter.ticket.session
session_of (Release ticket) = ticket.session
session_of (Upgrade ticket mode) = ticket.session
session_of (Merge old new) = old.session
session_of (Downgrade ticket mode) = ticket.session
session_of (ChangeDefinition ticket change) = ticket.session

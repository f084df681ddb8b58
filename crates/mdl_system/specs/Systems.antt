-- The system of locks: who holds what, who waits for what and what is defined, after MySQL 5.7: `MDL_map`, `MDL_lock` and
-- `MDL_context` of sql/mdl.cc. It is the model that a reader has to agree with, without places, limits or storage.
use Rattle.std.specs.Prelude.{◌≡◌, ◌≢◌, ◌↔◌, ℕ, ◌<◌, List, [], Option, None, Contains, AllPairs}
use Rattle.mdl_key.specs.declared.namespace.Kind.{Kind}
use Rattle.mdl_key.specs.declared.mode.Mode.{Mode}
use Rattle.mdl_key.specs.Words.{KeyName, Clashes, WaitsBehind, kind_of}
use Rattle.mdl_book.specs.declared.ticket.Ticket.{Ticket}

-- the state of a wait: unsettled, or lost in one of three ways
pub data WaitState : Type 0 where
  Unsettled : WaitState
  Victim : WaitState
  TimedOut : WaitState
  Killed : WaitState

-- a granted ticket
pub record Holding : Type 0 where
  pub session : ℕ
  pub number : ℕ
  pub key : KeyName
  pub mode : Mode

-- a waiting ticket, with the number and the state of its wait
pub record Waiter : Type 0 where
  pub ticket : Ticket
  pub wait : ℕ
  pub state : WaitState

-- a wait that is granted and that its session hasn't ended yet, with the number of its ticket
pub record GrantedWait : Type 0 where
  pub session : ℕ
  pub wait : ℕ
  pub ticket : ℕ

-- a key's definition, if there is one, and how often it was changed
pub record Versioned (D : Type 0) : Type 0 where
  pub version : ℕ
  pub definition : Option D

-- the system. Of `granted` and `unended` only the members matter; the waiters of a key are in order of arrival
pub record System (D : Type 0) : Type 0 where
  pub granted : List Holding
  pub waiting : KeyName → List Waiter
  pub unended : List GrantedWait
  pub definitions : KeyName → Versioned D

-- the empty system: no session holds or waits, and each key has version 0 and no definition
abbrev pub empty_system : {D : Type 0} → System D
empty_system = record { granted = []; waiting = λ _. []; unended = []; definitions = λ _. record { version = 0; definition = None } }

-- the kind of the lock of a key
abbrev pub lock_kind : KeyName → Kind
lock_kind key = kind_of key.namespace

-- a session holds a granted ticket of its own, except one whose wait it hasn't ended yet
abbrev pub Held : {D : Type 0} → System D → ℕ → Holding → Type 0
Held system session held =
    Contains system.granted held
    × (held.session ≡ session)
    × ((wait : GrantedWait) → Contains system.unended wait → wait.session ≡ session → wait.ticket ≢ held.number)

-- a list of the tickets that a session holds, in increasing number, which is the order in which the session got them
abbrev pub ListsHeld : {D : Type 0} → System D → ℕ → List Holding → Type 0
ListsHeld system session tickets =
    AllPairs (λ earlier later. earlier.number < later.number) tickets
    × ((ticket : Holding) → Contains tickets ticket ↔ Held system session ticket)

-- a session has no wait: none of its tickets waits, settled or not, and it has ended each wait that was granted
abbrev pub HasNoWait : {D : Type 0} → System D → ℕ → Type 0
HasNoWait system session =
    ((key : KeyName) (waiter : Waiter) → Contains (system.waiting key) waiter → waiter.ticket.session ≢ session)
    × ((wait : GrantedWait) → Contains system.unended wait → wait.session ≢ session)

-- lawful: no two granted tickets of one key and different sessions clash
abbrev pub IsLawful : {D : Type 0} → System D → Type 0
IsLawful system =
    (one other : Holding) →
    Contains system.granted one → Contains system.granted other →
    one.key ≡ other.key → one.session ≢ other.session →
    Clashes (lock_kind one.key) one.mode other.mode → ⊥

-- no granted ticket of another session at a key clashes with a session's request for a mode
abbrev pub IsCompatible : {D : Type 0} → System D → ℕ → KeyName → Mode → Type 0
IsCompatible system session key mode =
    (held : Holding) → Contains system.granted held → held.key ≡ key → held.session ≢ session →
    Clashes (lock_kind key) mode held.mode → ⊥

-- a session's request for a mode waits behind no waiting ticket of another session at the key, settled or not
abbrev pub GoesFirst : {D : Type 0} → System D → ℕ → KeyName → Mode → Type 0
GoesFirst system session key mode =
    (waiter : Waiter) → Contains (system.waiting key) waiter → waiter.ticket.session ≢ session →
    WaitsBehind (lock_kind key) mode waiter.ticket.mode → ⊥

-- grantable: a session's request clashes with no granted ticket of another session, and waits behind no waiting one
abbrev pub IsGrantable : {D : Type 0} → System D → ℕ → KeyName → Mode → Type 0
IsGrantable system session key mode = IsCompatible system session key mode × GoesFirst system session key mode

-- no waiter is forgotten at a key: none of the unsettled waiters there is grantable
abbrev pub NoneForgottenAt : {D : Type 0} → System D → KeyName → Type 0
NoneForgottenAt system key =
    (waiter : Waiter) → Contains (system.waiting key) waiter → waiter.state ≡ Unsettled →
    IsGrantable system waiter.ticket.session key waiter.ticket.mode → ⊥

-- no waiter is forgotten at any key
abbrev pub NoneForgotten : {D : Type 0} → System D → Type 0
NoneForgotten system = (key : KeyName) → NoneForgottenAt system key

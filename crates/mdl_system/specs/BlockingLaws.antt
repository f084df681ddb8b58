-- Laws of who blocks whom, and so of which waiters may be forgotten: after `MDL_lock::reschedule_waiters` of MySQL 5.7,
-- sql/mdl.cc. `C` are the changes of definitions, `D` the definitions, and `apply` returns the definition of a key after a
-- change, or `None` if the change is refused.
use Rattle.std.specs.Prelude.{◌≡◌, ◌⊎◌, ◌↔◌, ℕ, List, Option, All, Contains}
use Rattle.mdl_key.specs.declared.mode.Mode.{Mode}
use Rattle.mdl_key.specs.Words.{IsAtLeast, KeyName}
use Rattle.mdl_system.specs.Systems.{Holding, Waiter, System, lock_kind, IsGrantable, NoneForgottenAt, NoneForgotten}
use Rattle.mdl_system.specs.Events.{Event, Grant, Clone, BeginWait, GrantWaiter, SettleLost, EndGrantedWait, EndLostWait, Release, Upgrade, Merge, Downgrade, ChangeDefinition, Happens, Run}

-- a session has a granted ticket of a key that is at least as strong as a mode
abbrev pub IsCovered : {D : Type 0} → System D → KeyName → ℕ → Mode → Type 0
IsCovered system key session mode =
    (held : Holding) × Contains system.granted held × (held.key ≡ key) × (held.session ≡ session) × IsAtLeast (lock_kind key) held.mode mode

-- a ticket waits at a key, settled or not
abbrev pub IsWaiting : {D : Type 0} → System D → KeyName → Waiter → Type 0
IsWaiting system key waiter = (other : Waiter) × Contains (system.waiting key) other × (other.ticket ≡ waiter.ticket)

-- b blocks at a key at least as much as a: what is granted in a is covered in b, and what waits in a waits in b, or is covered
abbrev pub BlocksAsMuch : {D : Type 0} → System D → System D → KeyName → Type 0
BlocksAsMuch a b key =
    ((held : Holding) → Contains a.granted held → held.key ≡ key → IsCovered b key held.session held.mode)
    × ((waiter : Waiter) → Contains (a.waiting key) waiter → IsWaiting b key waiter ⊎ IsCovered b key waiter.ticket.session waiter.ticket.mode)

-- if b blocks at a key at least as much as a, then what is grantable in b is grantable in a
abbrev pub MoreBlocksMore : Type 0 → Type 0
MoreBlocksMore D =
    (a b : System D) (key : KeyName) → BlocksAsMuch a b key →
    (session : ℕ) (mode : Mode) → IsGrantable b session key mode → IsGrantable a session key mode

-- an event that removes no ticket and weakens none; a merge is one, too, as the ticket that it leaves is as strong as both were
abbrev pub FreesNothing : {C : Type 0} → Event C → Type 0
FreesNothing (EndLostWait key waiter) = ⊥
FreesNothing (Release ticket) = ⊥
FreesNothing (Upgrade ticket mode) = IsAtLeast (lock_kind ticket.key) mode ticket.mode
FreesNothing (Downgrade ticket mode) = ⊥
FreesNothing _ = Unit {0}

-- after such an event nothing is grantable that wasn't before, so waiters have to be checked again only after other events.
-- Granting a waiter is such an event: it can't unblock one that arrived earlier
abbrev pub OnlyGoingFrees : Type 0 → Type 0 → Type 0
OnlyGoingFrees C D =
    (apply : KeyName → C → Option D → Option (Option D)) (event : Event C) (a b : System D) →
    Happens apply event a b → FreesNothing event →
    (session : ℕ) (key : KeyName) (mode : Mode) → IsGrantable b session key mode → IsGrantable a session key mode

-- if a wait begins by the event, its request isn't grantable
abbrev pub WaitsForCause : {C D : Type 0} → Event C → System D → Type 0
WaitsForCause (BeginWait key waiter) a = IsGrantable a waiter.ticket.session key waiter.ticket.mode → ⊥
WaitsForCause _ a = Unit {0}

-- an event that frees nothing makes no waiter forgotten, unless a wait begins for a grantable request
abbrev pub NobodyForgottenUnlessFreed : Type 0 → Type 0 → Type 0
NobodyForgottenUnlessFreed C D =
    (apply : KeyName → C → Option D → Option (Option D)) (event : Event C) (a b : System D) →
    Happens apply event a b → FreesNothing event → WaitsForCause event a →
    (key : KeyName) → NoneForgottenAt a key → NoneForgottenAt b key

-- an event is about the key of its ticket; the end of a granted wait is about none
abbrev pub IsAbout : {C : Type 0} → Event C → KeyName → Type 0
IsAbout (Grant ticket) key = ticket.key ≡ key
IsAbout (Clone first second) key = second.key ≡ key
IsAbout (BeginWait at waiter) key = at ≡ key
IsAbout (GrantWaiter at waiter) key = at ≡ key
IsAbout (SettleLost at waiter how) key = at ≡ key
IsAbout (EndGrantedWait wait) key = ⊥
IsAbout (EndLostWait at waiter) key = at ≡ key
IsAbout (Release ticket) key = ticket.key ≡ key
IsAbout (Upgrade ticket mode) key = ticket.key ≡ key
IsAbout (Merge old new) key = old.key ≡ key
IsAbout (Downgrade ticket mode) key = ticket.key ≡ key
IsAbout (ChangeDefinition ticket change) key = ticket.key ≡ key

-- at every other key the same tickets wait, and the same requests are grantable
abbrev pub EventsConcernOneKey : Type 0 → Type 0 → Type 0
EventsConcernOneKey C D =
    (apply : KeyName → C → Option D → Option (Option D)) (event : Event C) (a b : System D) →
    Happens apply event a b →
    (key : KeyName) → (IsAbout event key → ⊥) →
    (b.waiting key ≡ a.waiting key)
    × ((session : ℕ) (mode : Mode) → IsGrantable b session key mode ↔ IsGrantable a session key mode)

-- the event grants a waiter of this key
abbrev pub IsGrantAt : {C : Type 0} → KeyName → Event C → Type 0
IsGrantAt key (GrantWaiter at waiter) = at ≡ key
IsGrantAt key _ = ⊥

-- waiters of a key can be granted until none is forgotten there
abbrev pub GrantingComesToAnEnd : Type 0 → Type 0 → Type 0
GrantingComesToAnEnd C D =
    (apply : KeyName → C → Option D → Option (Option D)) (a : System D) (key : KeyName) →
    (events : List (Event C)) × (b : System D) × All (IsGrantAt key) events × Run apply events a b × NoneForgottenAt b key

-- if no waiter was forgotten before an event that is about one key at most, and waiters of that key are then granted until none
-- is forgotten there, no waiter is forgotten at any key
abbrev pub GrantingThereIsEnough : Type 0 → Type 0 → Type 0
GrantingThereIsEnough C D =
    (apply : KeyName → C → Option D → Option (Option D)) (event : Event C) (events : List (Event C)) (a b c : System D) (key : KeyName) →
    ((other : KeyName) → IsAbout event other → other ≡ key) →
    Happens apply event a b → All (IsGrantAt key) events → Run apply events b c →
    NoneForgottenAt c key → NoneForgotten a → NoneForgotten c

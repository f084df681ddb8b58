-- What a session does under a latch is an event of the system of locks. Each law says what the session has to know for that.
use Rattle.std.proofs.Common.{◌≡◌, ◌≢◌, ℕ, suc, Bool, true, List, [], ◌∷◌, Option, Some, None, Contains}
use Rattle.mdl_book.specs.Books as books
use Rattle.mdl_key.specs.declared.mode.Mode.TheVariants.{X}
use Rattle.mdl_system.specs.Strength.{downgrades}
use Rattle.mdl_system.specs.Systems.{lock_kind}
use Rattle.mdl_steps_laws.proofs.Common.{Alter, AreLocksOf, Change, ChangesDefinition, ClonesTicket, Deed, Definition, Downgrades, Gain, GrantsNew, HasNoWait, Held, IsAtLeast, IsNewNumber, IsOnly, KeyName, Lawful, Lock, Lose, MayJoin, Merges, Mode, NotedCounts, Once, Record, Releases, Rule, SameElsewhere, SameWaits, Slot, State, System, Tells, Ticket, Upgrades, View, all_booked, applied, get_elem?, goes_first, held_at, of_lock, some, standing_fault}

-- ---- what is done

-- one lock comes to be another, and the locks of other keys and all waits stay; the system is `a` before, and `b` after it
pub record Turns (key : KeyName) (lock : Lock) (old new : KeyName → Lock) (a b : System Definition) : Type 0 where
  pub before : Tells old a
  pub after : Tells new b
  pub here : new key ≡ lock
  pub elsewhere : SameElsewhere key old new
  pub waits : SameWaits a b

-- the lock after deeds of a session: its fast tickets are the same
abbrev pub lock_after : ℕ → List Deed → Lock → Lock
lock_after session deeds lock = record { fast = lock.fast; book = all_booked session deeds lock.book }

-- a session does this to the lock of a key, the first deed first
abbrev pub Does : ℕ → List Deed → KeyName → (KeyName → Lock) → (KeyName → Lock) → System Definition → System Definition → Type 0
Does session deeds key old new a b = Turns key (lock_after session deeds (old key)) old new a b

-- and after a change of its definition
abbrev pub lock_redefined : Change → Lock → Lock
lock_redefined change lock = record { fast = lock.fast; book = books.redefining change lock.book }

-- a change is made of what is defined under a key
abbrev pub Redefines : Change → KeyName → (KeyName → Lock) → (KeyName → Lock) → System Definition → System Definition → Type 0
Redefines change key old new a b = Turns key (lock_redefined change (old key)) old new a b

-- ---- what is known

-- what the rule says of a lock whose latch is held, with the word that was noted there
pub record MayBeJoined (noted : Option ℕ) (lock : Lock) : Type 0 where
  pub lawful : Lawful (books.lock_kind lock.book) lock.fast lock.book.granted
  pub once : Once lock.book.granted
  pub obtrusive : Bool
  pub noted_counts : NotedCounts (books.lock_kind lock.book) lock.fast obtrusive noted

-- a session has no wait, and its wish is compatible with all that is granted and may overtake all that waits
pub record MayTake {D : Type 0} (session : ℕ) (mode : Mode) (lock : Lock) (a : System D) : Type 0 where
  pub free : HasNoWait a session
  pub noted : Option ℕ
  pub ready : MayBeJoined noted lock
  pub joins : MayJoin session lock.book noted mode
  pub first : goes_first (books.lock_kind lock.book) lock.book.waiting session mode ≡ true

-- ---- the laws

-- a session that holds the latch of a key's place, and has noted a word or none, has there what deeds ask for
abbrev pub HoldersMayJoin : Type 0
HoldersMayJoin =
    (s : State Slot View) → Rule s → (locks : KeyName → Lock) → (are : AreLocksOf s locks) →
    (i : ℕ) (key : KeyName) → get_elem? are.keys i ≡ some key →
    (j : ℕ) (v : View) → get_elem? s.views j ≡ some v → (h : Record) → held_at (suc i) v.latches ≡ Some h →
    MayBeJoined h.noted (locks key)

-- to lose a ticket is to release it
abbrev pub LosingReleases : Type 0
LosingReleases =
    (session number : ℕ) (key : KeyName) (old new : KeyName → Lock) (a b : System Definition) →
    Does session (Lose number ∷ []) key old new a b →
    (t : Ticket) → IsOnly session number (old key) t → Held a session (of_lock key t) →
    Releases (of_lock key t) a b

-- to gain one of a new number is to be granted it, where the wish may be taken
abbrev pub GainingGrants : Type 0
GainingGrants =
    (session number : ℕ) (mode : Mode) (key : KeyName) (old new : KeyName → Lock) (a b : System Definition) →
    Does session (Gain number mode ∷ []) key old new a b →
    IsNewNumber a session number → MayTake session mode (old key) a →
    GrantsNew (of_lock key (record { session = session; number = number; mode = mode })) a b

-- and where the session holds one that is at least as strong, it is to clone that one, whoever waits
abbrev pub GainingClones : Type 0
GainingClones =
    (session number : ℕ) (mode : Mode) (key : KeyName) (old new : KeyName → Lock) (a b : System Definition) →
    Does session (Gain number mode ∷ []) key old new a b →
    HasNoWait a session → IsNewNumber a session number →
    (t : Ticket) → Held a session (of_lock key t) → IsAtLeast (lock_kind key) t.mode mode →
    ClonesTicket (of_lock key t) (of_lock key (record { session = session; number = number; mode = mode })) a b

-- to alter a ticket is to downgrade it, where the new mode is one of those below the old one
abbrev pub AlteringDowngrades : Type 0
AlteringDowngrades =
    (session number : ℕ) (mode : Mode) (key : KeyName) (old new : KeyName → Lock) (a b : System Definition) →
    Does session (Alter number mode ∷ []) key old new a b →
    (t : Ticket) → IsOnly session number (old key) t → Held a session (of_lock key t) → Contains (downgrades t.mode) mode →
    Downgrades (of_lock key t) mode a b

-- and to upgrade it, where the wish for the new mode may be taken
abbrev pub AlteringUpgrades : Type 0
AlteringUpgrades =
    (session number : ℕ) (mode : Mode) (key : KeyName) (old new : KeyName → Lock) (a b : System Definition) →
    Does session (Alter number mode ∷ []) key old new a b →
    (t : Ticket) → IsOnly session number (old key) t → Held a session (of_lock key t) → MayTake session mode (old key) a →
    Upgrades (of_lock key t) mode a b

-- to alter one to the mode of another, at least as strong, and to lose that is to merge the two
abbrev pub MovingMerges : Type 0
MovingMerges =
    (session kept lost : ℕ) (key : KeyName) (old new : KeyName → Lock) (a b : System Definition) →
    (t u : Ticket) → IsOnly session kept (old key) t → IsOnly session lost (old key) u → kept ≢ lost →
    Does session (Alter kept u.mode ∷ Lose lost ∷ []) key old new a b →
    HasNoWait a session → Held a session (of_lock key t) → Held a session (of_lock key u) → IsAtLeast (lock_kind key) u.mode t.mode →
    Merges (of_lock key t) (of_lock key u) a b

-- a change of a definition that can be made, by a session that holds the key exclusively, is one of the system
abbrev pub RedefiningChanges : Type 0
RedefiningChanges =
    (session : ℕ) (change : Change) (key : KeyName) (old new : KeyName → Lock) (a b : System Definition) →
    Redefines change key old new a b →
    (t : Ticket) → Held a session (of_lock key t) → t.mode ≡ X → standing_fault key.namespace change (old key).book.standing ≡ None →
    ChangesDefinition (λ (at : KeyName). applied at.namespace) (of_lock key t) change a b

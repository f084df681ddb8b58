-- The locks of the running table, and the system that they make.
--
-- The lock of a key has the fast tickets of all sessions, which are in no list, and the book. The table keeps both at the key's place: the
-- fast tickets are in the sessions' views, and the book is in the place's slot, or with the session that holds its latch. A reader of the
-- system needs to know nothing of places, latches and views.
use Rattle.std.specs.Prelude.{◌≡◌, ◌≢◌, ℕ, suc, List, [], ◌++◌, map, slice_index, Some, Contains}
use Rattle.mdl_steps.specs.declared.slot.Slot.TheVariants as slot
use Rattle.mdl_steps_laws.specs.Prelude.{BookView, Definition, GrantedWait, IsGrantedByLists, KeyName, Keys, LatchRecord, Slot, State, System, Ticket, Versioned, VersionedDefinition, View, Waiter, empty_book, fast_at, get_elem?, held_at, latch_word, some}

-- a lock: the fast tickets of all sessions, and the book
pub record Lock : Type 0 where
  pub fast : List Ticket
  pub book : BookView

-- all granted tickets of a lock, fast and slow ones
abbrev pub granted_of : Lock → List Ticket
granted_of lock = lock.fast ++ lock.book.granted

-- the lock of a key that has no place: no tickets, no definition, and version 0
abbrev pub empty_lock : KeyName → Lock
empty_lock key = record { fast = []; book = empty_book key }

-- ---- the locks of the running table

-- the book of a place: in its slot while the latch is free, otherwise in the record of the session that holds the latch
pub record IsBookAt (s : State Slot View) (place : ℕ) (book : BookView) : Type 0 where
  pub free : slice_index s.words (latch_word place) ≡ 0 → get_elem? s.homes place ≡ some (some (slot.Place book))
  pub taken : (i : ℕ) (v : View) → get_elem? s.views i ≡ some v → (h : LatchRecord) → held_at place v.latches ≡ Some h → h.book ≡ book

-- the keys that have places, in the order of their places from 1 on: those of the directory, which is in slot 0, or in the record of the session that
-- holds its latch
pub record AreKeysOf (s : State Slot View) (keys : List KeyName) : Type 0 where
  pub free : slice_index s.words (latch_word 0) ≡ 0 → get_elem? s.homes 0 ≡ some (some (slot.Directory (record { keys = keys })))
  pub taken : (i : ℕ) (v : View) → get_elem? s.views i ≡ some v → (k : Keys) → v.directory ≡ Some k → k.keys ≡ keys

-- the lock of a key is what its place has. A key that has no place has an empty lock
pub record AreLocksOf (s : State Slot View) (locks : KeyName → Lock) : Type 0 where
  pub keys : List KeyName
  pub keys_are : AreKeysOf s keys
  pub fast_are : (i : ℕ) (key : KeyName) → get_elem? keys i ≡ some key → (locks key).fast ≡ fast_at s (suc i)
  pub book_is : (i : ℕ) (key : KeyName) → get_elem? keys i ≡ some key → IsBookAt s (suc i) (locks key).book
  pub without_place : (key : KeyName) → ((i : ℕ) → get_elem? keys i ≢ some key) → locks key ≡ empty_lock key

-- ---- the system of the locks

-- the version and definition of a book, as the system has them
abbrev pub versioned : VersionedDefinition → Versioned Definition
versioned standing = record { version = standing.version; definition = standing.definition }

-- the system of these locks. A ticket is granted in the system exactly if it is among the granted tickets of its key's lock. The waiters' tickets
-- are the waiting tickets of the book, in their order. Versions and definitions are those of the books. The states of waits are in no book
pub record Tells (locks : KeyName → Lock) (system : System Definition) : Type 0 where
  pub keyed : (key : KeyName) → (locks key).book.key ≡ key
  pub granted : IsGrantedByLists system (λ key. granted_of (locks key))
  pub waiting : (key : KeyName) → map (λ (waiter : Waiter). waiter.ticket) (system.waiting key) ≡ (locks key).book.waiting
  pub definitions : (key : KeyName) → system.definitions key ≡ versioned (locks key).book.standing

-- the session has no wait, granted and not ended, for the ticket with this number
abbrev pub IsOfNoWait : {D : Type 0} → System D → ℕ → ℕ → Type 0
IsOfNoWait system session number = (wait : GrantedWait) → Contains system.unended wait → wait.session ≡ session → wait.ticket ≢ number

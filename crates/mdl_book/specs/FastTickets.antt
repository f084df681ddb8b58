-- Fast tickets: those that are in no list of a lock and are only counted by its packed word, after MySQL 5.7: the fast
-- path of `MDL_context::try_acquire_lock_impl` in sql/mdl.cc.
use Rattle.std.specs.Prelude.{◌≡◌, ◌≢◌, ℕ, ◌<◌, ◌≤◌, Bool, false, not, ◌&&◌, ◌==◌, List, slice_index, All, count_by, IsTrue}
use Rattle.std.specs.Option.{option_map_or}
use Rattle.mdl_key.specs.declared.namespace.Kind.{Kind}
use Rattle.mdl_key.specs.declared.mode.Mode.{Mode}
use Rattle.mdl_key.specs.Classes.{class_of, is_obtrusive}
use Rattle.mdl_word.specs.Words.{counts_of, blocks_by}
use Rattle.mdl_book.specs.declared.ticket.Ticket.{Ticket}
use Rattle.mdl_book.specs.Granting.{is_compatible, goes_first}

-- whether a ticket is of this class
abbrev pub is_of_class : Kind → ℕ → Ticket → Bool
is_of_class kind class ticket = option_map_or (λ own. own == class) (class_of kind ticket.mode) false

-- the word counts exactly these fast tickets: each is in a mode that is counted, and for each class their number is the
-- word's count
pub record CountsFastTickets (kind : Kind) (word : ℕ) (fast : List Ticket) : Type 0 where
  pub unobtrusive : All (λ ticket. IsTrue (not (is_obtrusive kind ticket.mode))) fast
  pub counted : (class : ℕ) → class < 3 → count_by (is_of_class kind class) fast ≡ slice_index (counts_of word) class

-- the word counts at least these fast tickets: each is in a mode that is counted, and for each class their number is at most
-- the word's count
pub record CoversFastTickets (kind : Kind) (word : ℕ) (fast : List Ticket) : Type 0 where
  pub unobtrusive : All (λ ticket. IsTrue (not (is_obtrusive kind ticket.mode))) fast
  pub covered : (class : ℕ) → class < 3 → count_by (is_of_class kind class) fast ≤ slice_index (counts_of word) class

-- none of these tickets is of the session
abbrev pub AreOfOthers : ℕ → List Ticket → Type 0
AreOfOthers session tickets = All (λ ticket. ticket.session ≢ session) tickets

-- whether no granted or fast ticket blocks a request: it clashes with no granted ticket of another session, and with no
-- fast ticket that the word counts
abbrev pub may_stand : Kind → List Ticket → ℕ → ℕ → Mode → Bool
may_stand kind granted word session mode = is_compatible kind granted session mode && not (blocks_by (counts_of word) kind mode)

-- whether a request can be granted: no granted or fast ticket blocks it, and it waits behind no waiting ticket of another
-- session
abbrev pub can_be_granted : Kind → List Ticket → List Ticket → ℕ → ℕ → Mode → Bool
can_be_granted kind granted waiting word session mode = may_stand kind granted word session mode && goes_first kind waiting session mode

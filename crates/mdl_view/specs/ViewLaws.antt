-- Laws: who blocks whom, compared with the waits of `mdl_graph`, and which waits are granted at once.
use Rattle.std.specs.Prelude.{◌≡◌, ℕ, Bool, false, not, ◌&&◌, ◌==◌, List, [], ◌++◌, map, All, IsPermutation, IsTrue}
use Rattle.std.specs.List.{list_any}
use Rattle.mdl_book.specs.declared.book_view.BookView.{BookView}
use Rattle.mdl_graph.specs.WaitsFor.{SessionTest, waits_for}
use Rattle.mdl_view.specs.declared.act.Act.{Act}
use Rattle.mdl_view.specs.declared.blocking.Blocking.{Blocking}
use Rattle.mdl_view.specs.declared.lock_mode.LockKind.{LockKind}
use Rattle.mdl_view.specs.declared.lock_mode.LockMode.{LockMode}
use Rattle.mdl_view.specs.declared.ticket.Ticket.{Ticket}
use Rattle.mdl_view.specs.Acts.{is_taken, lock_after}
use Rattle.mdl_view.specs.AtOnce.{can_be_granted, granted_at, granted_from}
use Rattle.mdl_view.specs.Blockings.{blockings_in}
use Rattle.mdl_view.specs.GoingOn.{is_free}
use Rattle.mdl_view.specs.Locks.{LockView, lock_of_book}
use Rattle.mdl_view.specs.Modes.{lock_clashes, lock_waits_behind}

-- whether the blockings say that the first session is blocked by the second
abbrev pub is_told : List Blocking → ℕ → ℕ → Bool
is_told blockings waiter other = list_any (λ blocking. blocking.waiter.session == waiter && blocking.other.session == other) blockings

-- no session is settled
abbrev pub nobody : SessionTest
nobody session = false

-- the blockings of books have a pair of sessions exactly if the one waits for the other, where no wait is settled
abbrev pub BlockingsAreWaits : Type 0
BlockingsAreWaits = (books : List BookView) (waiter other : ℕ) → is_told (blockings_in 0 (map lock_of_book books)) waiter other ≡ waits_for nobody books waiter other

-- a request that waits behind another one clashes with it, too, once the other one is granted
abbrev pub WaitingBehindIsClashing : Type 0
WaitingBehindIsClashing = (kind : LockKind) (ask pending : LockMode) → IsTrue (lock_waits_behind kind ask pending) → IsTrue (lock_clashes kind ask pending)

-- the waiting tickets `left` are those that aren't granted, and none of them that `may` be granted can be, beside all that were
pub record AreLeft (lock : LockView) (may : Ticket → Bool) (granted waiting got left : List Ticket) : Type 0 where
  pub all : IsPermutation waiting (got ++ left)
  pub none : All (λ ask. IsTrue (not (may ask && can_be_granted lock (granted ++ got) left ask))) left

-- after one pass over the waiting tickets nobody is left that can be granted
abbrev pub NobodyIsForgotten : Type 0
NobodyIsForgotten =
    (lock : LockView) (may : Ticket → Bool) (granted waiting : List Ticket) →
    (left : List Ticket) × AreLeft lock may granted waiting (granted_from lock may granted [] waiting) left

-- each wait that is granted at once after an act was blocked by tickets alone that the act takes
abbrev pub GrantedAreFreed : Type 0
GrantedAreFreed = (act : Act) (lock : LockView) → All (λ ask. IsTrue (is_free lock (is_taken act) ask)) (granted_at lock (lock_after act lock))

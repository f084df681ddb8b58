-- Laws of the two lists of a lock's book, together with its fast tickets, after MySQL 5.7: `MDL_lock::reschedule_waiters` of
-- sql/mdl.cc.
use Rattle.std.specs.Prelude.{◌≡◌, ◌↔◌, ℕ, List, ◌∷◌, ◌++◌, Contains, IsTrue, Some, None}
use Rattle.std.specs.FinSet as set
use Rattle.std.specs.Ordering.{nat_cmp}
use Rattle.mdl_key.specs.declared.namespace.Kind.{Kind}
use Rattle.mdl_key.specs.declared.mode.Mode.{Mode}
use Rattle.mdl_book.specs.declared.book_view.BookView.{BookView}
use Rattle.mdl_book.specs.declared.ticket.Ticket.{Ticket}
use Rattle.mdl_book.specs.Books.{lock_kind, granting, admitting, enqueueing, next_grantable, AreOfNoWaiter, NoneForgotten}
use Rattle.mdl_book.specs.FastTickets.{CountsFastTickets, CoversFastTickets}
use Rattle.mdl_book.specs.Granting.{IsGrantable, IsLawful}

-- both lists have the same tickets, in any order and any number of times
abbrev pub SameMembers : List Ticket → List Ticket → Type 0
SameMembers a b = (ticket : Ticket) → Contains a ticket ↔ Contains b ticket

-- whether a list of granted tickets is lawful depends on its members alone
abbrev pub LawfulByMembers : Type 0
LawfulByMembers = (kind : Kind) (a b : List Ticket) → SameMembers a b → IsLawful kind a ↔ IsLawful kind b

-- whether a request is grantable depends on the members of the two lists alone
abbrev pub GrantableByMembers : Type 0
GrantableByMembers =
    (kind : Kind) (granted granted′ waiting waiting′ : List Ticket) (session : ℕ) (mode : Mode) →
    SameMembers granted granted′ → SameMembers waiting waiting′ →
    IsGrantable kind granted waiting session mode ↔ IsGrantable kind granted′ waiting′ session mode

-- if the word counts exactly these fast tickets, and none is of a session that waits, there is no next waiter exactly if no
-- waiter is forgotten
abbrev pub NobodyIsNextWhereNoneIsForgotten : Type 0
NobodyIsNextWhereNoneIsForgotten =
    (word : ℕ) (fast : List Ticket) (unsettled : set.FinSet nat_cmp) (lists : BookView) →
    CountsFastTickets (lock_kind lists) word fast → AreOfNoWaiter lists fast →
    (next_grantable word unsettled lists ≡ None) ↔ NoneForgotten fast unsettled lists

-- the next waiter waits, is unsettled, and is grantable beside the fast tickets; the word may count more than these
abbrev pub WhoIsNextIsGrantable : Type 0
WhoIsNextIsGrantable =
    (word : ℕ) (fast : List Ticket) (unsettled : set.FinSet nat_cmp) (lists : BookView) (ticket : Ticket) →
    CoversFastTickets (lock_kind lists) word fast → next_grantable word unsettled lists ≡ Some ticket →
    Contains lists.waiting ticket × IsTrue (set.contains unsettled ticket.session)
    × IsGrantable (lock_kind lists) (fast ++ lists.granted) lists.waiting ticket.session ticket.mode

-- granting a ticket makes no waiter forgotten, whether it is added to the list or is a fast one
abbrev pub GrantingForgetsNobody : Type 0
GrantingForgetsNobody =
    (fast : List Ticket) (unsettled : set.FinSet nat_cmp) (lists : BookView) (ticket : Ticket) →
    NoneForgotten fast unsettled lists →
    NoneForgotten fast unsettled (granting ticket lists) × NoneForgotten (ticket ∷ fast) unsettled lists

-- granting a waiting ticket makes no waiter forgotten: a request that waited behind it now clashes with it
abbrev pub AdmittingForgetsNobody : Type 0
AdmittingForgetsNobody =
    (fast : List Ticket) (unsettled : set.FinSet nat_cmp) (lists : BookView) (session number : ℕ) →
    NoneForgotten fast unsettled lists → NoneForgotten fast unsettled (admitting session number lists)

-- adding a waiting ticket makes no waiter forgotten, if it isn't grantable or its session is settled
abbrev pub EnqueueingForgetsNobody : Type 0
EnqueueingForgetsNobody =
    (fast : List Ticket) (unsettled : set.FinSet nat_cmp) (lists : BookView) (ticket : Ticket) →
    (IsTrue (set.contains unsettled ticket.session) → IsGrantable (lock_kind lists) (fast ++ lists.granted) lists.waiting ticket.session ticket.mode → ⊥) →
    NoneForgotten fast unsettled lists → NoneForgotten fast unsettled (enqueueing ticket lists)

-- settling sessions makes no waiter forgotten
abbrev pub SettlingForgetsNobody : Type 0
SettlingForgetsNobody =
    (fast : List Ticket) (fewer more : set.FinSet nat_cmp) (lists : BookView) →
    ((session : ℕ) → IsTrue (set.contains fewer session) → IsTrue (set.contains more session)) →
    NoneForgotten fast more lists → NoneForgotten fast fewer lists

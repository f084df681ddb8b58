-- What the definitions of deadlocks mean, in other words.
use Rattle.std.specs.Prelude.{◌≡◌, ◌≢◌, ◌↔◌, ◌⊎◌, ℕ, Bool, ◌+◌, ◌<◌, ◌≤◌, ◌%◌, List, [], map, length, take, IsTrue, IsFalse, All, Any, AllPairs, MatchOption, get_or}
use Rattle.std.specs.FinSet as set
use Rattle.std.specs.Ordering.{nat_cmp}
use Rattle.mdl_key.specs.declared.mode.Mode.{Mode}
use Rattle.mdl_key.specs.Matrices.{Clashes, WaitsBehind}
use Rattle.mdl_book.specs.declared.book_view.BookView.{BookView}
use Rattle.mdl_book.specs.Books.{lock_kind}
use Rattle.mdl_graph.specs.declared.cycle.Member.{Member}
use Rattle.mdl_graph.specs.Cycles.{IsCycleThrough, is_chosen_before}
use Rattle.mdl_graph.specs.Victims.{victim_of}
use Rattle.mdl_graph.specs.WaitsFor.{SessionTest, WaitsFor, nobody, waits_for, wish_of}
use Rattle.mdl_graph.specs.Graphs.{GraphView, IsGraphOf, empty_graph, deadlock, deadlock_in, unsettled_deadlock}

-- ---- who waits for whom

-- a session holds a ticket of the lock that clashes with a requested mode
abbrev pub HoldsAgainst : BookView → Mode → ℕ → Type 0
HoldsAgainst book wish session = Any (λ held. (held.session ≡ session) × Clashes (lock_kind book) wish held.mode) book.granted

-- a session is unsettled and waits at the lock in a mode that the requested one waits behind
abbrev pub WaitsAhead : SessionTest → BookView → Mode → ℕ → Type 0
WaitsAhead settled book wish session =
    IsFalse (settled session)
    × Any (λ pending. (pending.session ≡ session) × WaitsBehind (lock_kind book) wish pending.mode) book.waiting

-- a session waits at the lock with a ticket that another session blocks
abbrev pub IsBlockedAt : SessionTest → ℕ → ℕ → BookView → Type 0
IsBlockedAt settled waiter other book =
    Any (λ wish. (wish.session ≡ waiter) × (HoldsAgainst book wish.mode other ⊎ WaitsAhead settled book wish.mode other)) book.waiting

-- one session waits for another exactly if they are two, the first is unsettled, and it waits at one of the locks with a
-- ticket that clashes with a granted ticket of the other, or that waits behind a waiting ticket of the other, which is
-- unsettled, too
abbrev pub WaitingIsBeingBlocked : Type 0
WaitingIsBeingBlocked =
    (settled : SessionTest) (books : List BookView) (waiter other : ℕ) →
    WaitsFor settled books waiter other
    ↔ ((waiter ≢ other) × IsFalse (settled waiter) × Any (IsBlockedAt settled waiter other) books)

-- ---- cycles

-- a list begins with a session and has no session twice; each waits for the next one, and the last for the first
pub record IsRound (waits : ℕ → ℕ → Type 0) (from : ℕ) (cycle : List ℕ) : Type 0 where
  pub begins : (0 < length cycle) × (get_or cycle 0 0 ≡ from)
  pub distinct : AllPairs (λ one other. one ≢ other) cycle
  pub round : (i : ℕ) → i < length cycle → waits (get_or cycle i 0) (get_or cycle ((i + 1) % length cycle) 0)

-- the cycles through a session are exactly these lists
abbrev pub CyclesAreRounds : Type 0
CyclesAreRounds =
    (waits : ℕ → ℕ → Bool) (from : ℕ) (cycle : List ℕ) →
    IsCycleThrough waits from cycle ↔ IsRound (λ one other. IsTrue (waits one other)) from cycle

-- the sessions of some members
abbrev pub sessions_of : List Member → List ℕ
sessions_of members = map (λ member. member.session) members

-- the chosen cycle of some locks: a cycle of at least two sessions that is chosen before all others
pub record IsChosen (settled : SessionTest) (books : List BookView) (from : ℕ) (members : List Member) : Type 0 where
  pub cycle : IsCycleThrough (waits_for settled books) from (sessions_of members)
  pub two : 2 ≤ length members
  pub first : (other : List ℕ) → IsCycleThrough (waits_for settled books) from other → IsTrue (is_chosen_before (sessions_of members) other)

-- no list is a cycle through a session
abbrev pub IsFree : SessionTest → List BookView → ℕ → Type 0
IsFree settled books from = (cycle : List ℕ) → IsCycleThrough (waits_for settled books) from cycle → ⊥

-- if a deadlock is found, it is the chosen cycle; if none is found, there is no cycle
abbrev pub DeadlocksAreChosenCycles : Type 0
DeadlocksAreChosenCycles =
    (settled : SessionTest) (books : List BookView) (from : ℕ) →
    MatchOption (deadlock_in settled books from) (IsFree settled books from) (IsChosen settled books from)

-- a session is unsettled, and one of its tickets waits at one of the locks
abbrev pub HasWish : SessionTest → List BookView → ℕ → Type 0
HasWish settled books session = IsFalse (settled session) × Any (λ book. Any (λ ticket. ticket.session ≡ session) book.waiting) books

-- each member of a cycle is unsettled and has such a ticket
abbrev pub MembersOfCyclesWait : Type 0
MembersOfCyclesWait =
    (settled : SessionTest) (books : List BookView) (from : ℕ) (cycle : List ℕ) →
    IsCycleThrough (waits_for settled books) from cycle → All (HasWish settled books) cycle

-- a cycle stays one if fewer sessions are settled, all of which were settled before
abbrev pub FewerSettledKeepCycles : Type 0
FewerSettledKeepCycles =
    (settled fewer : SessionTest) (books : List BookView) (from : ℕ) (cycle : List ℕ) →
    ((session : ℕ) → IsTrue (fewer session) → IsTrue (settled session)) →
    IsCycleThrough (waits_for settled books) from cycle → IsCycleThrough (waits_for fewer books) from cycle

-- a member is unsettled, and waits at one of the locks with a ticket of its weight
abbrev pub IsWaiting : SessionTest → List BookView → Member → Type 0
IsWaiting settled books member =
    IsFalse (settled member.session) × Any (λ book. Any (λ ticket. member ≡ wish_of book ticket) book.waiting) books

-- each member of a deadlock is unsettled and has such a ticket
abbrev pub MembersOfDeadlocksWait : Type 0
MembersOfDeadlocksWait =
    (settled : SessionTest) (books : List BookView) (from : ℕ) →
    MatchOption (deadlock_in settled books from) (Unit {0}) (All (IsWaiting settled books))

-- at the first position where two lists differ, the first list has the lower number
abbrev pub IsLessAtFirst : List ℕ → List ℕ → Type 0
IsLessAtFirst one other =
    (k : ℕ) × (k < length one) × (k < length other) × (take k one ≡ take k other) × (get_or one k 0 < get_or other k 0)

-- one list is chosen before another exactly if it is the other one, or shorter, or of equal length and has the lower number
-- at the first position where they differ
abbrev pub ShorterCyclesComeFirst : Type 0
ShorterCyclesComeFirst =
    (one other : List ℕ) →
    IsTrue (is_chosen_before one other)
    ↔ ((one ≡ other) ⊎ (length one < length other) ⊎ ((length one ≡ length other) × IsLessAtFirst one other))

-- ---- victims

-- of these members this one weighs least, and of those that weigh the same its number is the greatest
abbrev pub FallsAmong : List Member → Member → Type 0
FallsAmong members member =
    All (λ other. (member.weight < other.weight) ⊎ ((member.weight ≡ other.weight) × (other.session ≤ member.session))) members

-- the victim is the session of the member that weighs least, and of equal weights the one of the greatest number
abbrev pub VictimsWeighLeast : Type 0
VictimsWeighLeast =
    (members : List Member) → 0 < length members →
    Any (λ member. (member.session ≡ victim_of members) × FallsAmong members member) members

-- ---- graphs

-- the empty graph is the graph of no locks
abbrev pub GraphsBeginEmpty : Type 0
GraphsBeginEmpty = (settled : set.FinSet nat_cmp) → IsGraphOf (set.contains settled) [] (empty_graph settled)

-- the graph of some locks finds their deadlocks
abbrev pub GraphsFindDeadlocks : Type 0
GraphsFindDeadlocks =
    (settled : SessionTest) (books : List BookView) (graph : GraphView) (from : ℕ) →
    IsGraphOf settled books graph → deadlock graph from ≡ deadlock_in settled books from

-- the graph of some locks, built with nobody settled, finds the deadlocks among the sessions that aren't settled
abbrev pub GraphsSettleLater : Type 0
GraphsSettleLater =
    (settled : SessionTest) (books : List BookView) (graph : GraphView) (from : ℕ) →
    IsGraphOf nobody books graph → unsettled_deadlock settled graph from ≡ deadlock_in settled books from

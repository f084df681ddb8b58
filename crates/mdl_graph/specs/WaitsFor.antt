-- Who waits for whom, after MySQL 5.7: `MDL_lock::visit_subgraph` and `MDL_context::visit_subgraph` of sql/mdl.cc.
use Rattle.std.specs.Prelude.{ℕ, Bool, false, not, ◌&&◌, ◌||◌, ◌==◌, List, filter, flat_map, map, IsTrue}
use Rattle.std.specs.List.{list_any}
use Rattle.mdl_key.specs.declared.mode.Mode.{Mode}
use Rattle.mdl_key.specs.Words.{weight_of, clashes, waits_behind}
use Rattle.mdl_book.specs.declared.book_view.BookView.{BookView}
use Rattle.mdl_book.specs.declared.ticket.Ticket.{Ticket}
use Rattle.mdl_book.specs.Books.{lock_kind}
use Rattle.mdl_graph.specs.declared.cycle.Member.{Member}

-- a set of sessions, as a test of whether a session is in it
abbrev pub SessionTest : Type 0
SessionTest = ℕ → Bool

-- no session
abbrev pub nobody : SessionTest
nobody session = false

-- whether a session isn't settled
abbrev pub is_unsettled : SessionTest → ℕ → Bool
is_unsettled settled session = not (settled session)

-- whether a session holds a ticket of the lock that clashes with a requested mode
abbrev pub holds_against : BookView → Mode → ℕ → Bool
holds_against book wish session = list_any (λ held. held.session == session && clashes (lock_kind book) wish held.mode) book.granted

-- whether a session waits at the lock, unsettled, in a mode that the requested one waits behind, whichever of the two came first
abbrev pub waits_ahead : SessionTest → BookView → Mode → ℕ → Bool
waits_ahead settled book wish session =
    is_unsettled settled session && list_any (λ pending. pending.session == session && waits_behind (lock_kind book) wish pending.mode) book.waiting

-- whether a waiting ticket is blocked by another session
abbrev pub is_tied : SessionTest → BookView → ℕ → Ticket → Bool
is_tied settled book session wish =
    not (wish.session == session) && (holds_against book wish.mode session || waits_ahead settled book wish.mode session)

-- whether one session waits for another at a lock
abbrev pub waits_at : SessionTest → BookView → ℕ → ℕ → Bool
waits_at settled book waiter other =
    is_unsettled settled waiter && list_any (λ wish. wish.session == waiter && is_tied settled book other wish) book.waiting

-- whether one session waits for another: it is unsettled and waits at one of these locks, at which the other one holds a
-- ticket that clashes with its request, or waits, unsettled, in a mode that its request waits behind
abbrev pub waits_for : SessionTest → List BookView → ℕ → ℕ → Bool
waits_for settled books waiter other = list_any (λ book. waits_at settled book waiter other) books

-- one session waits for another
abbrev pub WaitsFor : SessionTest → List BookView → ℕ → ℕ → Type 0
WaitsFor settled books waiter other = IsTrue (waits_for settled books waiter other)

-- the session of a waiting ticket, with the weight of its request
abbrev pub wish_of : BookView → Ticket → Member
wish_of book ticket = record { session = ticket.session; weight = weight_of book.key.namespace ticket.mode }

-- the requests of the unsettled sessions that wait at a lock, in order of arrival
abbrev pub wishes_at : SessionTest → BookView → List Member
wishes_at settled book = map (wish_of book) (filter (λ ticket. is_unsettled settled ticket.session) book.waiting)

-- the requests of the unsettled sessions that wait at these locks
abbrev pub wishes_in : SessionTest → List BookView → List Member
wishes_in settled books = flat_map (wishes_at settled) books

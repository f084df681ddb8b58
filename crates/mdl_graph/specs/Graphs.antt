-- Graphs of sessions that wait for one another, as they are built lock by lock.
use Rattle.std.specs.Prelude.{◌≡◌, ℕ, Bool, ◌&&◌, ◌==◌, List, [], ◌∷◌, ◌++◌, map, filter, find, Option, Some, None, refl}
use Rattle.std.specs.Coded.{Coded, code_by, coded×, coded_list, coded_ℕ}
use Rattle.std.specs.FinSet as set
use Rattle.std.specs.List.{list_any}
use Rattle.std.specs.Option.{option_map}
use Rattle.std.specs.Ordering.{nat_cmp}
use Rattle.mdl_key.specs.declared.namespace.Namespace.{Namespace}
use Rattle.mdl_book.specs.declared.book_view.BookView.{BookView}
use Rattle.mdl_book.specs.declared.ticket.Ticket.{Ticket}
use Rattle.mdl_book.specs.Books.{empty_book}
use Rattle.mdl_graph.specs.declared.cycle.Member.{Member}
use Rattle.mdl_graph.specs.Cycles.{chosen_cycle}
use Rattle.mdl_graph.specs.Victims.{victim_of}
use Rattle.mdl_graph.specs.WaitsFor.{SessionTest, is_unsettled, waits_for, wishes_in}

-- the value of a graph: the settled sessions, the requests (wishes) of the others, and who waits for whom, in pairs
pub record GraphView : Type 0 where
  pub settled : set.FinSet nat_cmp
  pub wishes : List Member
  pub ties : List (ℕ × ℕ)

-- a member is stored as the pair of its fields
abbrev pub member_code : Coded Member
member_code =
    code_by (ℕ × ℕ) (coded× coded_ℕ coded_ℕ) (λ member. (member.session, member.weight))
    (λ parts. record { session = parts.0; weight = parts.1 })
    (λ _. refl)

-- a graph is stored as the tuple of its fields
abbrev pub graph_code : Coded GraphView
graph_code =
    code_by (set.FinSet nat_cmp × (List Member × List (ℕ × ℕ)))
    (coded× (set.code coded_ℕ) (coded× (coded_list member_code) (coded_list (coded× coded_ℕ coded_ℕ))))
    (λ graph. (graph.settled, (graph.wishes, graph.ties)))
    (λ parts. record { settled = parts.0; wishes = parts.1.0; ties = parts.1.1 })
    (λ _. refl)

-- a lock of this namespace and these lists, without a name and without a definition: neither decides who waits for whom there
abbrev pub lock_of : Namespace → List Ticket → List Ticket → BookView
lock_of namespace granted waiting =
    record (empty_book (record { namespace = namespace; schema = []; table = [] })) { granted = granted; waiting = waiting }

-- whether a session of a graph is settled
abbrev pub is_settled : GraphView → ℕ → Bool
is_settled graph session = set.contains graph.settled session

-- whether one session of a graph waits for another
abbrev pub waits : GraphView → ℕ → ℕ → Bool
waits graph waiter other = list_any (λ tie. tie.0 == waiter && tie.1 == other) graph.ties

-- the graph to which no lock was added yet
abbrev pub empty_graph : set.FinSet nat_cmp → GraphView
empty_graph settled = record { settled = settled; wishes = []; ties = [] }

-- the graph is that of these locks, and these sessions are settled
pub record IsGraphOf (settled : SessionTest) (books : List BookView) (graph : GraphView) : Type 0 where
  pub same_settled : (session : ℕ) → is_settled graph session ≡ settled session
  pub same_wishes : graph.wishes ≡ wishes_in settled books
  pub same_waits : (waiter other : ℕ) → waits graph waiter other ≡ waits_for settled books waiter other

-- whichever locks a graph is of, the later one is of this lock, too
abbrev pub AddsBook : BookView → GraphView → GraphView → Type 0
AddsBook book graph later =
    (settled : SessionTest) (books : List BookView) → IsGraphOf settled books graph → IsGraphOf settled (books ++ book ∷ []) later

-- the weight of a request, the first one of its session: a session waits at one lock at most. Without a request it is 0
abbrev pub weight_found : Option Member → ℕ
weight_found None = 0
weight_found (Some wish) = wish.weight

-- a session with the weight of its request
abbrev pub member_of : List Member → ℕ → Member
member_of wishes session =
    record { session = session; weight = weight_found (find (λ wish. wish.session == session) wishes) }

-- the chosen cycle through a session, with the weights of its members' requests
abbrev pub cycle_found : List Member → (ℕ → ℕ → Bool) → ℕ → Option (List Member)
cycle_found wishes waits from = option_map (map (member_of wishes)) (chosen_cycle waits (map (λ wish. wish.session) wishes) from)

-- the chosen cycle of a graph through a session
abbrev pub deadlock : GraphView → ℕ → Option (List Member)
deadlock graph from = cycle_found graph.wishes (waits graph) from

-- the chosen cycle of a graph through a session once these sessions are settled, too: that of the others' requests
abbrev pub unsettled_deadlock : SessionTest → GraphView → ℕ → Option (List Member)
unsettled_deadlock settled graph from =
    cycle_found (filter (λ wish. is_unsettled settled wish.session) graph.wishes)
    (λ waiter other. is_unsettled settled waiter && waits graph waiter other) from

-- the chosen cycle of these locks through a session
abbrev pub deadlock_in : SessionTest → List BookView → ℕ → Option (List Member)
deadlock_in settled books from = cycle_found (wishes_in settled books) (waits_for settled books) from

-- the victim of the chosen cycle through a session
abbrev pub victim_in : SessionTest → List BookView → ℕ → Option ℕ
victim_in settled books from = option_map victim_of (deadlock_in settled books from)

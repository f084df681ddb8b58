-- Deadlocks are the chosen cycles of those who wait.
use Rattle.std.proofs.Common.{◌≡◌, ℕ, cond, ◌&&◌, ◌≤◌, true, false, List, [], ◌∷◌, length, map, Some, None, refl, sym, ap, subst, ◌∙◌, inl, inr, arith}
use Rattle.std.specs.Prelude.{filter, find, ◌==◌, All, Any, MatchOption}
use Rattle.std.specs.Option.{option_map}
use Rattle.std.specs.List.{Contains}
use Rattle.std.proofs.lemmas.Bool.{not-true, not_from_false, and_parts, eqb-true, eq-eqb, false≢true}
use Rattle.std.proofs.lemmas.List.{length-map}
use Rattle.mdl_book.specs.declared.book_view.BookView.{BookView}
use Rattle.mdl_book.specs.declared.ticket.Ticket.{Ticket}
use Rattle.mdl_graph.specs.declared.cycle.Member.{Member}
use Rattle.mdl_graph.proofs.MemberLemmas.{mapped, flat_mapped, among_map, among_flat_map, among_filter, among_filtered, contained, among_these}
use Rattle.mdl_graph.specs.Members.{Among}
use Rattle.mdl_graph.specs.Cycles.{IsCycleThrough, chosen_cycle, is_chosen_before}
use Rattle.mdl_graph.proofs.CycleLaws.{chosen_cycles, chosen_first, chosen_none, chosen_same, member_of_cycle_waits}
use Rattle.mdl_graph.specs.WaitsFor.{SessionTest, waits_for, is_unsettled, wish_of, wishes_at, wishes_in}
use Rattle.mdl_graph.specs.Graphs.{GraphView, IsGraphOf, member_of, weight_found, cycle_found, deadlock, deadlock_in, waits}
use Rattle.mdl_graph.specs.GraphLaws.{sessions_of, IsChosen, IsFree, HasWish, IsWaiting}
use Rattle.mdl_graph.proofs.AnyLemmas.{any_among, all_among}
use Rattle.mdl_graph.proofs.WaitingLemmas.{waits_by}

-- ---- who waits has a wish

waiter_wishes : (settled : SessionTest) (books : List BookView) (waiter other : ℕ) → waits_for settled books waiter other ≡ true
    → Contains (map (λ wish. wish.session) (wishes_in settled books)) waiter
waiter_wishes settled books waiter other e =
    let told = (waits_by settled books waiter other).0 e in
    let book = told.2.1 in
    let here = among_these books book (told.2.0, told.2.2, told.2.3) in
    let found = told.2.4 in
    let ticket = found.1 in
    let stands = among_these book.waiting ticket (found.0, found.2, found.3) in
    let unsettled : is_unsettled settled ticket.session ≡ true =
    not_from_false (settled ticket.session) (ap settled found.4.0 ∙ told.1) in
    let at_lock = among_map (wish_of book) ticket (filter (λ ticket. is_unsettled settled ticket.session) book.waiting)
    (among_filter (λ (ticket : Ticket). is_unsettled settled ticket.session) ticket book.waiting stands unsettled) in
    let wish = among_flat_map (wishes_at settled) book (wish_of book ticket) books here at_lock in
    contained (map (λ wish. wish.session) (wishes_in settled books)) waiter
    (subst (λ (session : ℕ). Among session (map (λ wish. wish.session) (wishes_in settled books))) found.4.0
    (among_map (λ (wish : Member). wish.session) (wish_of book ticket) (wishes_in settled books) wish))

-- ---- a wish is a waiting ticket's

wish_waits : (settled : SessionTest) (books : List BookView) (wish : Member) → Among wish (wishes_in settled books) → IsWaiting settled books wish
wish_waits settled books wish among =
    let at_lock = flat_mapped (wishes_at settled) wish books among in
    let book = at_lock.0 in
    let by_ticket = mapped (wish_of book) wish (filter (λ ticket. is_unsettled settled ticket.session) book.waiting) at_lock.2 in
    let ticket = by_ticket.0 in
    let stands = among_filtered (λ (ticket : Ticket). is_unsettled settled ticket.session) ticket book.waiting by_ticket.1 in (
      ap (λ (member : Member). settled member.session) by_ticket.2 ∙ not-true (settled ticket.session) stands.1,
      any_among (λ (book : BookView). Any (λ ticket. wish ≡ wish_of book ticket) book.waiting) book books at_lock.1
          (any_among (λ (ticket : Ticket). wish ≡ wish_of book ticket) ticket book.waiting stands.0 by_ticket.2),
    )

-- a session that has a wish is a member by its first one
wished : (wishes : List Member) (session : ℕ) → Among session (map (λ wish. wish.session) wishes) → Among (member_of wishes session) wishes
wished [] session among = absurd among
wished (wish ∷ wishes) session among =
    let found = find (λ (wish : Member). wish.session == session) wishes in
    elim (wish.session == session) as (λ b. (wish.session == session) ≡ b
    → Among (record { session = session; weight = weight_found (cond b (Some wish) found) }) (wish ∷ wishes)) [
      | true ↦ λ e. inl (ap (λ (number : ℕ). record { session = number; weight = wish.weight }) (sym (eqb-true wish.session session e)))
      | false ↦ λ e. elim among [
        | inl same ↦ absurd (false≢true (sym e ∙ eq-eqb wish.session session (sym same)))
        | inr later ↦ inr (wished wishes session later)
      ]
    ] refl

-- ---- the laws

sessions_are : (wishes : List Member) (cycle : List ℕ) → sessions_of (map (member_of wishes) cycle) ≡ cycle
sessions_are wishes [] = refl
sessions_are wishes (session ∷ cycle) = ap (λ (rest : List ℕ). session ∷ rest) (sessions_are wishes cycle)

two_members : (settled : SessionTest) (books : List BookView) (from : ℕ) (cycle : List ℕ) → IsCycleThrough (waits_for settled books) from cycle → 2 ≤ length cycle
two_members settled books from [] is = absurd (false≢true is)
two_members settled books from (session ∷ []) is =
    let parts = and_parts (session == from && true) (waits_for settled books session from) is in
    absurd (((waits_by settled books session from).0 parts.1).0 (eqb-true session from (and_parts (session == from) true parts.0).0))
two_members settled books from (session ∷ next ∷ rest) is = omega arith

pub deadlock_chosen : (settled : SessionTest) (books : List BookView) (from : ℕ)
    → MatchOption (deadlock_in settled books from) (IsFree settled books from) (IsChosen settled books from)
deadlock_chosen settled books from =
    let waiting = waits_for settled books in
    let wishes = wishes_in settled books in
    let sessions = map (λ (wish : Member). wish.session) wishes in
    elim (chosen_cycle waiting sessions from) as (λ found. chosen_cycle waiting sessions from ≡ found
    → MatchOption (option_map (map (member_of wishes)) found) (IsFree settled books from) (IsChosen settled books from)) [
      | None ↦ λ e. chosen_none waiting sessions from (waiter_wishes settled books) e
      | Some cycle ↦ λ e.
          let is : IsCycleThrough waiting from cycle = chosen_cycles waiting sessions from cycle e in
          let same : cycle ≡ sessions_of (map (member_of wishes) cycle) = sym (sessions_are wishes cycle) in
          record {
            cycle = subst (IsCycleThrough waiting from) same is;
            two = rw length-map (two_members settled books from cycle is);
            first = subst (λ (list : List ℕ). (other : List ℕ) → IsCycleThrough waiting from other → is_chosen_before list other ≡ true) same
                (chosen_first waiting sessions from cycle (waiter_wishes settled books) e);
          }
    ] refl

pub cycle_waits : (settled : SessionTest) (books : List BookView) (from : ℕ) (cycle : List ℕ)
    → IsCycleThrough (waits_for settled books) from cycle → All (HasWish settled books) cycle
cycle_waits settled books from cycle is = all_among (HasWish settled books) cycle (λ session among.
    let to = member_of_cycle_waits (waits_for settled books) from cycle session is (contained cycle session among) in
    let told = (waits_by settled books session to.0).0 to.1 in
    let found = told.2.4 in
    (told.1, (told.2.0, told.2.1, told.2.2, told.2.3, (found.0, found.1, found.2, found.3, found.4.0))))

pub deadlock_waits : (settled : SessionTest) (books : List BookView) (from : ℕ)
    → MatchOption (deadlock_in settled books from) (Unit {0}) (All (IsWaiting settled books))
deadlock_waits settled books from =
    let waiting = waits_for settled books in
    let wishes = wishes_in settled books in
    let sessions = map (λ (wish : Member). wish.session) wishes in
    elim (chosen_cycle waiting sessions from) as (λ found. chosen_cycle waiting sessions from ≡ found
    → MatchOption (option_map (map (member_of wishes)) found) (Unit {0}) (All (IsWaiting settled books))) [
      | None ↦ λ e. tt
      | Some cycle ↦ λ e.
          let is : IsCycleThrough waiting from cycle = chosen_cycles waiting sessions from cycle e in
          all_among (IsWaiting settled books) (map (member_of wishes) cycle) (λ member among.
          let by_session = mapped (member_of wishes) member cycle among in
          let session = by_session.0 in
          let to = member_of_cycle_waits waiting from cycle session is (contained cycle session by_session.1) in
          let wish = wished wishes session (among_these sessions session (waiter_wishes settled books session to.0 to.1)) in
          subst (IsWaiting settled books) (sym by_session.2) (wish_waits settled books (member_of wishes session) wish))
    ] refl

pub graph_finds : (settled : SessionTest) (books : List BookView) (graph : GraphView) (from : ℕ)
    → IsGraphOf settled books graph → deadlock graph from ≡ deadlock_in settled books from
graph_finds settled books graph from is =
    ap (λ (wishes : List Member). cycle_found wishes (waits graph) from) is.same_wishes
    ∙ ap (option_map (map (member_of (wishes_in settled books))))
    (chosen_same (waits graph) (waits_for settled books) (map (λ (wish : Member). wish.session) (wishes_in settled books)) from is.same_waits)

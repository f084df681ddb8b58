-- What a graph's sessions wait for, where a lock is added.
use Rattle.std.proofs.Common.{◌≡◌, ◌≤◌, ℕ, Bool, true, false, List, [], ◌∷◌, ◌++◌, map, cond, refl, ap, sym, ◌∙◌, inl, inr}
use Rattle.std.specs.Prelude.{◌&&◌, ◌||◌, ◌==◌, filter}
use Rattle.std.specs.FinSet as set
use Rattle.std.specs.List.{list_any}
use Rattle.std.specs.Ordering.{nat_cmp}
use Rattle.std.proofs.lemmas.Bool.{and_parts, or_cases, eqb-true, false≢true}
use Rattle.std.proofs.lemmas.Grind.{flat_map-append}
use Rattle.std.proofs.lemmas.List.{append-nil, map-append}
use Rattle.std.proofs.lemmas.List.Elements.{Contains-append_left, Contains-append_right}
use Rattle.std.proofs.lemmas.List.Folds.{list_any-append}
use Rattle.mdl_book.specs.declared.book_view.BookView.{BookView}
use Rattle.mdl_book.specs.declared.ticket.Ticket.{Ticket}
use Rattle.mdl_graph.specs.declared.cycle.Member.{Member}
use Rattle.mdl_graph.specs.Graphs.{GraphView, IsGraphOf, is_settled, lock_of, waits}
use Rattle.mdl_graph.proofs.MemberLemmas.{contained}
use Rattle.mdl_graph.specs.Members.{Among}
use Rattle.mdl_graph.specs.WaitsFor.{SessionTest, is_unsettled, is_tied, waits_at, waits_for, wish_of, wishes_at, wishes_in}
use Rattle.mdl_graph.specs.Searches.{Pairs, holds, are_joined, AreWished}

or_false : (b : Bool) → (b || false) ≡ b
or_false true = refl
or_false false = refl

-- the sessions of some wishes
abbrev sessions_of : List Member → List ℕ
sessions_of wishes = map (λ wish. wish.session) wishes

-- the wishes of the unsettled of these tickets
abbrev wishes_of : SessionTest → BookView → List Ticket → List Member
wishes_of settled book tickets = map (wish_of book) (filter (λ ticket. is_unsettled settled ticket.session) tickets)

-- an unsettled session with a ticket has a wish
has_wish : (settled : SessionTest) (book : BookView) (other waiter : ℕ) → is_unsettled settled waiter ≡ true → (tickets : List Ticket)
    → list_any (λ wish. wish.session == waiter && is_tied settled book other wish) tickets ≡ true → Among waiter (sessions_of (wishes_of settled book tickets))
has_wish settled book other waiter open_still [] tied = absurd (false≢true tied)
has_wish settled book other waiter open_still (ticket ∷ tickets) tied =
    elim (is_unsettled settled ticket.session) as (λ b. is_unsettled settled ticket.session ≡ b
    → Among waiter (sessions_of (map (wish_of book) (cond b (ticket ∷ filter (λ t. is_unsettled settled t.session) tickets) (filter (λ t. is_unsettled settled t.session) tickets))))) [
      | true ↦ λ _. elim (or_cases (ticket.session == waiter && is_tied settled book other ticket)
          (list_any (λ wish. wish.session == waiter && is_tied settled book other wish) tickets) tied) [
            | inl here ↦ inl (sym (eqb-true ticket.session waiter (and_parts (ticket.session == waiter) (is_tied settled book other ticket) here).0))
            | inr later ↦ inr (has_wish settled book other waiter open_still tickets later)
          ]
      | false ↦ λ e. elim (or_cases (ticket.session == waiter && is_tied settled book other ticket)
          (list_any (λ wish. wish.session == waiter && is_tied settled book other wish) tickets) tied) [
            | inl here ↦
                let same : ticket.session ≡ waiter = eqb-true ticket.session waiter (and_parts (ticket.session == waiter) (is_tied settled book other ticket) here).0 in
                absurd (false≢true (sym e ∙ ap (is_unsettled settled) same ∙ open_still))
            | inr later ↦ has_wish settled book other waiter open_still tickets later
          ]
    ] refl

-- a lock more leaves each waiter with a wish
pub wished-more : (settled : SessionTest) (book : BookView) (wishes more_wishes : List Member) (rows more_rows : ℕ) (waits stands more_waits more_stands : Pairs)
    → AreWished wishes rows waits stands
    → more_wishes ≡ wishes ++ wishes_at settled book
    → ((waiter other : ℕ) → are_joined more_waits more_stands waiter other ≡ (are_joined waits stands waiter other || waits_at settled book waiter other))
    → ((row session : ℕ) → more_rows ≤ row → holds more_waits row session ≡ false)
    → ((row session : ℕ) → more_rows ≤ row → holds more_stands session row ≡ false)
    → AreWished more_wishes more_rows more_waits more_stands
wished-more settled book wishes more_wishes rows more_rows waits stands more_waits more_stands were grown tied known fresh = record {
  wished = λ waiter other e.
      rw (grown, map-append (λ (wish : Member). wish.session) wishes (wishes_at settled book))
      (elim (or_cases (are_joined waits stands waiter other) (waits_at settled book waiter other) (sym (tied waiter other) ∙ e)) [
        | inl before ↦ Contains-append_left (sessions_of wishes) (sessions_of (wishes_at settled book)) waiter (were.wished waiter other before)
        | inr now ↦
            let parts = and_parts (is_unsettled settled waiter) (list_any (λ wish. wish.session == waiter && is_tied settled book other wish) book.waiting) now in
            Contains-append_right (sessions_of wishes) (sessions_of (wishes_at settled book)) waiter
            (contained (sessions_of (wishes_at settled book)) waiter (has_wish settled book other waiter parts.0 book.waiting parts.1))
      ]);
  known = known;
  fresh = fresh;
}

same_tests : (one two : SessionTest) → ((session : ℕ) → one session ≡ two session) → one ≡ two
same_tests one two same = λ i session. same session i

-- the graph of some locks is that of one more once it is added
pub graph-more : (settled : SessionTest) (books : List BookView) (book : BookView) (old new : GraphView) → IsGraphOf settled books old
    → new.settled ≡ old.settled
    → new.wishes ≡ old.wishes ++ wishes_at (is_settled old) book
    → ((waiter other : ℕ) → waits new waiter other ≡ (waits old waiter other || waits_at (is_settled old) book waiter other))
    → IsGraphOf settled (books ++ book ∷ []) new
graph-more settled books book old new was kept grown tied =
    let tests : is_settled old ≡ settled = same_tests (is_settled old) settled was.same_settled in
    record {
      same_settled = λ session. ap (λ (s : set.FinSet nat_cmp). set.contains s session) kept ∙ was.same_settled session;
      same_wishes =
          grown
          ∙ ap (λ (wishes : List Member). wishes ++ wishes_at (is_settled old) book) was.same_wishes
          ∙ ap (λ (test : SessionTest). wishes_in settled books ++ wishes_at test book) tests
          ∙ sym (flat_map-append (wishes_at settled) books (book ∷ []) ∙ ap (λ (wishes : List Member). wishes_in settled books ++ wishes) (append-nil (wishes_at settled book)));
      same_waits = λ waiter other.
          tied waiter other
          ∙ ap (λ (b : Bool). b || waits_at (is_settled old) book waiter other) (was.same_waits waiter other)
          ∙ ap (λ (test : SessionTest). waits_for settled books waiter other || waits_at test book waiter other) tests
          ∙ sym (list_any-append (λ b. waits_at settled b waiter other) books (book ∷ []) ∙ ap (λ (b : Bool). waits_for settled books waiter other || b) (or_false (waits_at settled book waiter other)));
    }

-- likewise for a lock of the same namespace and lists
pub graph-same : (settled : SessionTest) (books : List BookView) (book one : BookView) (old new : GraphView) → one.key.namespace ≡ book.key.namespace → one.granted ≡ book.granted → one.waiting ≡ book.waiting
    → IsGraphOf settled books old
    → new.settled ≡ old.settled
    → new.wishes ≡ old.wishes ++ wishes_at (is_settled old) book
    → ((waiter other : ℕ) → waits new waiter other ≡ (waits old waiter other || waits_at (is_settled old) book waiter other))
    → IsGraphOf settled (books ++ one ∷ []) new
graph-same settled books book one old new key granted waiting was kept grown tied =
    let same : lock_of book.key.namespace book.granted book.waiting ≡ lock_of one.key.namespace one.granted one.waiting = (λ i. lock_of (sym key i) (sym granted i) (sym waiting i)) in
    graph-more settled books one old new was kept
    (grown ∙ ap (λ (lock : BookView). old.wishes ++ wishes_at (is_settled old) lock) same)
    (λ waiter other. tied waiter other ∙ ap (λ (lock : BookView). waits old waiter other || waits_at (is_settled old) lock waiter other) same)

-- ---- a lock at which nobody waits

none_kept : (b : Bool) → (b && false) ≡ false
none_kept true = refl
none_kept false = refl

module _ (settled : SessionTest) (book : BookView) (none : book.waiting ≡ []) where
  pub wishes-idle : (wishes : List Member) → wishes ≡ wishes ++ wishes_at settled book
  wishes-idle wishes = sym (append-nil wishes) ∙ ap (λ (waiting : List Ticket). wishes ++ wishes_of settled book waiting) (sym none)

  pub waits-idle : (before : Bool) (waiter other : ℕ) → before ≡ (before || waits_at settled book waiter other)
  waits-idle before waiter other =
      let nobody_waits : waits_at settled book waiter other ≡ false =
      ap (λ (waiting : List Ticket). is_unsettled settled waiter && list_any (λ (wish : Ticket). wish.session == waiter && is_tied settled book other wish) waiting) none
      ∙ none_kept (is_unsettled settled waiter) in
      sym (or_false before) ∙ ap (λ (b : Bool). before || b) (sym nobody_waits)

-- such a lock adds nothing
pub graph-idle : (settled : SessionTest) (books : List BookView) (book : BookView) (graph : GraphView) → book.waiting ≡ [] → IsGraphOf settled books graph
    → IsGraphOf settled (books ++ book ∷ []) graph
graph-idle settled books book graph none was =
    graph-more settled books book graph graph was refl (wishes-idle (is_settled graph) book none graph.wishes)
    (λ waiter other. waits-idle (is_settled graph) book none (waits graph waiter other) waiter other)

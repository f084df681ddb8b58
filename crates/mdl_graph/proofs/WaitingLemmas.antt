-- Who waits for whom, told by facts.
use Rattle.std.proofs.Common.{◌≡◌, ◌≢◌, ℕ, Bool, true, not, ◌&&◌, ◌||◌, List, ◌↔◌, ◌⊎◌, inl, inr, sym, ◌∙◌}
use Rattle.std.specs.Prelude.{◌==◌, IsFalse}
use Rattle.std.specs.List.{list_any, Any}
use Rattle.std.proofs.lemmas.Bool.{and_parts, and_from, or_cases, or_left, or_right, not-true, not_from_false, eqb-true, eq-eqb, ne_eqb, false≢true}
use Rattle.mdl_key.specs.declared.mode.Mode.{Mode}
use Rattle.mdl_key.specs.Matrices.{clashes, waits_behind}
use Rattle.mdl_book.specs.declared.book_view.BookView.{BookView}
use Rattle.mdl_book.specs.declared.ticket.Ticket.{Ticket}
use Rattle.mdl_book.specs.Books.{lock_kind}
use Rattle.mdl_graph.specs.WaitsFor.{SessionTest, WaitsFor, holds_against, waits_ahead, is_tied, waits_at}
use Rattle.mdl_graph.specs.GraphLaws.{HoldsAgainst, WaitsAhead, IsBlockedAt}
use Rattle.mdl_graph.proofs.AnyLemmas.{any_by}

-- a session's number and a test of its ticket
both : (a b : ℕ) (test : Bool) → (((a == b) && test) ≡ true) ↔ ((a ≡ b) × (test ≡ true))
both a b test = (
  λ e. let parts = and_parts (a == b) test e in (eqb-true a b parts.0, parts.1),
  λ h. and_from (a == b) test (eq-eqb a b h.0) h.1,
)

holds_by : (book : BookView) (wish : Mode) (session : ℕ) → (holds_against book wish session ≡ true) ↔ HoldsAgainst book wish session
holds_by book wish session =
    any_by (λ (held : Ticket). held.session == session && clashes (lock_kind book) wish held.mode)
    (λ (held : Ticket). (held.session ≡ session) × (clashes (lock_kind book) wish held.mode ≡ true))
    (λ held. both held.session session (clashes (lock_kind book) wish held.mode)) book.granted

pending_by : (book : BookView) (wish : Mode) (session : ℕ)
    → (list_any (λ pending. pending.session == session && waits_behind (lock_kind book) wish pending.mode) book.waiting ≡ true)
    ↔ Any (λ pending. (pending.session ≡ session) × (waits_behind (lock_kind book) wish pending.mode ≡ true)) book.waiting
pending_by book wish session =
    any_by (λ (pending : Ticket). pending.session == session && waits_behind (lock_kind book) wish pending.mode)
    (λ (pending : Ticket). (pending.session ≡ session) × (waits_behind (lock_kind book) wish pending.mode ≡ true))
    (λ pending. both pending.session session (waits_behind (lock_kind book) wish pending.mode)) book.waiting

ahead_by : (settled : SessionTest) (book : BookView) (wish : Mode) (session : ℕ)
    → (waits_ahead settled book wish session ≡ true) ↔ WaitsAhead settled book wish session
ahead_by settled book wish session =
    let waits = list_any (λ pending. pending.session == session && waits_behind (lock_kind book) wish pending.mode) book.waiting in (
      λ e. let parts = and_parts (not (settled session)) waits e in
          (not-true (settled session) parts.0, (pending_by book wish session).0 parts.1),
      λ h. and_from (not (settled session)) waits (not_from_false (settled session) h.0) ((pending_by book wish session).1 h.1),
    )

against_by : (settled : SessionTest) (book : BookView) (wish : Mode) (session : ℕ)
    → ((holds_against book wish session || waits_ahead settled book wish session) ≡ true)
    ↔ (HoldsAgainst book wish session ⊎ WaitsAhead settled book wish session)
against_by settled book wish session =
    let holds = holds_against book wish session in
    let waits = waits_ahead settled book wish session in (
      λ e. elim (or_cases holds waits e) [
        | inl h ↦ inl ((holds_by book wish session).0 h)
        | inr w ↦ inr ((ahead_by settled book wish session).0 w)
      ],
      λ either. elim either [
        | inl h ↦ or_left holds waits ((holds_by book wish session).1 h)
        | inr w ↦ or_right holds waits ((ahead_by settled book wish session).1 w)
      ],
    )

wish_by : (settled : SessionTest) (book : BookView) (waiter other : ℕ) (wish : Ticket)
    → ((wish.session == waiter && is_tied settled book other wish) ≡ true)
    ↔ ((wish.session ≡ waiter) × (waiter ≢ other) × (HoldsAgainst book wish.mode other ⊎ WaitsAhead settled book wish.mode other))
wish_by settled book waiter other wish =
    let against = holds_against book wish.mode other || waits_ahead settled book wish.mode other in (
      λ e.
          let parts = (both wish.session waiter (is_tied settled book other wish)).0 e in
          let tied = and_parts (not (wish.session == other)) against parts.1 in (
            parts.0,
            λ same. false≢true (sym (not-true (wish.session == other) tied.0) ∙ eq-eqb wish.session other (parts.0 ∙ same)),
            (against_by settled book wish.mode other).0 tied.1,
          ),
      λ h. (both wish.session waiter (is_tied settled book other wish)).1 (
        h.0,
        and_from (not (wish.session == other)) against
            (not_from_false (wish.session == other) (ne_eqb wish.session other (λ same. h.1 (sym h.0 ∙ same))))
            ((against_by settled book wish.mode other).1 h.2),
      ),
    )

-- at one lock
at_by : (settled : SessionTest) (waiter other : ℕ) (book : BookView)
    → (waits_at settled book waiter other ≡ true)
    ↔ ((waiter ≢ other) × IsFalse (settled waiter) × IsBlockedAt settled waiter other book)
at_by settled waiter other book =
    let wishes = any_by (λ (wish : Ticket). wish.session == waiter && is_tied settled book other wish)
    (λ (wish : Ticket). (wish.session ≡ waiter) × (waiter ≢ other) × (HoldsAgainst book wish.mode other ⊎ WaitsAhead settled book wish.mode other))
    (wish_by settled book waiter other) book.waiting in
    let some_wish = list_any (λ wish. wish.session == waiter && is_tied settled book other wish) book.waiting in (
      λ e.
          let parts = and_parts (not (settled waiter)) some_wish e in
          let found = wishes.0 parts.1 in
          (found.4.1, not-true (settled waiter) parts.0, (found.0, found.1, found.2, found.3, (found.4.0, found.4.2))),
      λ h. and_from (not (settled waiter)) some_wish (not_from_false (settled waiter) h.1)
          (wishes.1 (h.2.0, h.2.1, h.2.2, h.2.3, (h.2.4.0, h.0, h.2.4.1))),
    )

-- at some locks
pub waits_by : (settled : SessionTest) (books : List BookView) (waiter other : ℕ)
    → WaitsFor settled books waiter other
    ↔ ((waiter ≢ other) × IsFalse (settled waiter) × Any (IsBlockedAt settled waiter other) books)
waits_by settled books waiter other =
    let locks = any_by (λ (book : BookView). waits_at settled book waiter other)
    (λ (book : BookView). (waiter ≢ other) × IsFalse (settled waiter) × IsBlockedAt settled waiter other book)
    (at_by settled waiter other) books in (
      λ e. let found = locks.0 e in (found.4.0, found.4.1, (found.0, found.1, found.2, found.3, found.4.2)),
      λ h. locks.1 (h.2.0, h.2.1, h.2.2, h.2.3, (h.0, h.1, h.2.4)),
    )

-- The graph of all books of the lock space of one thread.
use Rattle.std.proofs.Common.{◌≡◌, ℕ, ◌≤◌, ◌&&◌, ◌||◌, ◌==◌, Bool, true, false, List, [], ◌∷◌, length, take, None, Option, inl, inr, refl, sym, subst, ap, ◌∙◌}
use Rattle.std.specs.List.{list_any}
use Rattle.std.specs.Option.{option_map}
use Rattle.std.proofs.lemmas.Bool.{and_from, eq-eqb, false≢true, or_left, or_right}
use Rattle.std.proofs.lemmas.List.{take_all}
use Rattle.std.proofs.lemmas.List.Folds.{list_any-from_Any}
use Rattle.mdl_key.specs.Matrices.{clashes, waits_behind}
use Rattle.mdl_book.specs.declared.book_view.BookView.{BookView}
use Rattle.mdl_book.specs.declared.ticket.Ticket.{Ticket}
use Rattle.mdl_book.specs.Books.{lock_kind}
use Rattle.mdl_graph.specs.declared.cycle.Member.{Member}
use Rattle.mdl_graph.specs.GraphLaws.{IsBlockedAt}
use Rattle.mdl_graph.specs.Graphs.{GraphView, IsGraphOf, deadlock}
use Rattle.mdl_graph.proofs.DeadlockLemmas.{graph_finds}
use Rattle.mdl_graph.proofs.FreeLemmas.{none_blocked}
use Rattle.mdl_graph.proofs.WaitingLemmas.{waits_by}
use Rattle.mdl_graph.specs.Victims.{victim_of}
use Rattle.mdl_graph.specs.WaitsFor.{SessionTest, waits_for}
use Rattle.mdl_core.specs.Words.{has_settled, victim_at, Core}
use Rattle.mdl_space.specs.Blocking.{blocks_at, blocks_some, some_clashes, some_goes_behind}

-- once all books were added, the victim of its deadlock is that of the space
pub victim-same : (core : Core) (who added : ℕ) (graph : GraphView) (books : List BookView) (cycle : Option (List Member))
    → IsGraphOf (has_settled core) (take added core.books) graph → books ≡ core.books → length books ≤ added
    → cycle ≡ deadlock graph who → option_map victim_of cycle ≡ victim_at who core
victim-same core who added graph books cycle is same all found =
    ap (option_map victim_of)
    (found ∙ graph_finds (has_settled core) core.books graph who
    (subst (λ books. IsGraphOf (has_settled core) books graph) (take_all added core.books (subst (λ books. length books ≤ added) same all)) is))

-- ---- whoever blocks nobody is in no deadlock

and_never : (b : Bool) → (b && false) ≡ false
and_never true = refl
and_never false = refl

never : (test : Ticket → Bool) (tickets : List Ticket) → list_any (λ (t : Ticket). test t && false) tickets ≡ false
never test [] = refl
never test (t ∷ tickets) = ap (λ (b : Bool). b || list_any (λ (u : Ticket). test u && false) tickets) (and_never (test t)) ∙ never test tickets

-- nobody is blocked at a lock at which nobody waits
pub blocks-none : (book : BookView) (who : ℕ) → book.waiting ≡ [] → blocks_at book who ≡ false
blocks-none book who none =
    ap (λ (waiting : List Ticket). list_any (λ (held : Ticket). held.session == who && some_clashes (lock_kind book) waiting held.mode) book.granted
    || list_any (λ (pending : Ticket). pending.session == who && some_goes_behind (lock_kind book) book.waiting pending.mode) waiting) none
    ∙ ap (λ (b : Bool). b || false) (never (λ (held : Ticket). held.session == who) book.granted)

module _ (settled : SessionTest) (who waiter : ℕ) where
  unblocked_at : (book : BookView) → blocks_at book who ≡ false → IsBlockedAt settled waiter who book → ⊥
  unblocked_at book none blocked =
      let kind = lock_kind book in
      let wish = blocked.1 in
      let holding = list_any (λ (held : Ticket). held.session == who && some_clashes kind book.waiting held.mode) book.granted in
      let pending_before = list_any (λ (pending : Ticket). pending.session == who && some_goes_behind kind book.waiting pending.mode) book.waiting in
      elim blocked.4.1 [
        | inl holds ↦
            let held = holds.1 in
            let clash : some_clashes kind book.waiting held.mode ≡ true =
            list_any-from_Any (λ (w : Ticket). clashes kind w.mode held.mode) book.waiting (blocked.0, wish, blocked.2, blocked.3, holds.4.1) in
            let its : holding ≡ true =
            list_any-from_Any (λ (h : Ticket). h.session == who && some_clashes kind book.waiting h.mode) book.granted
            (holds.0, held, holds.2, holds.3, and_from (held.session == who) (some_clashes kind book.waiting held.mode) (eq-eqb held.session who holds.4.0) clash) in
            false≢true (sym none ∙ or_left holding pending_before its)
        | inr ahead ↦
            let pending = ahead.1.1 in
            let behind : some_goes_behind kind book.waiting pending.mode ≡ true =
            list_any-from_Any (λ (w : Ticket). waits_behind kind w.mode pending.mode) book.waiting (blocked.0, wish, blocked.2, blocked.3, ahead.1.4.1) in
            let its : pending_before ≡ true =
            list_any-from_Any (λ (p : Ticket). p.session == who && some_goes_behind kind book.waiting p.mode) book.waiting
            (ahead.1.0, pending, ahead.1.2, ahead.1.3, and_from (pending.session == who) (some_goes_behind kind book.waiting pending.mode) (eq-eqb pending.session who ahead.1.4.0) behind) in
            false≢true (sym none ∙ or_right holding pending_before its)
      ]

  unblocked : (books : List BookView) → blocks_some books who ≡ false → waits_for settled books waiter who ≡ false
  unblocked books none = elim (waits_for settled books waiter who) as (λ b. waits_for settled books waiter who ≡ b → b ≡ false) [
    | true ↦ λ e.
        let at = ((waits_by settled books waiter who).0 e).2 in
        absurd (elim (blocks_at at.1 who) as (λ b. blocks_at at.1 who ≡ b → ⊥) [
          | true ↦ λ blocks. false≢true (sym none ∙ list_any-from_Any (λ (book : BookView). blocks_at book who) books (at.0, at.1, at.2, at.3, blocks))
          | false ↦ λ free. unblocked_at at.1 free at.4
        ] refl)
    | false ↦ λ e. refl
  ] refl

pub victim-none : (core : Core) (who : ℕ) (books : List BookView) (blocks : Bool) → books ≡ core.books → blocks ≡ blocks_some books who → blocks ≡ false → None ≡ victim_at who core
victim-none core who books blocks same told none =
    sym (ap (option_map victim_of) (none_blocked (has_settled core) core.books who
    (λ waiter. unblocked (has_settled core) who waiter core.books (ap (λ (bs : List BookView). blocks_some bs who) (sym same) ∙ sym told ∙ none))))

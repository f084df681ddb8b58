-- Deadlocks in the lock space of one thread: the cycles of its books, what their members weigh, and their victims.
use Rattle.std.proofs.Common.{◌≡◌, ℕ, zero, suc, ◌-◌, ◌<◌, true, List, [], ◌∷◌, length, Some, None, refl, sym, ap, subst, ◌∙◌, arith}
use Rattle.std.specs.Prelude.{Contains, slice_index_or}
use Rattle.mdl_key.specs.Words.{weight_of, global_key}
use Rattle.mdl_book.specs.declared.book_view.BookView.{BookView}
use Rattle.mdl_book.specs.declared.ticket.Ticket.{Ticket}
use Rattle.mdl_book.specs.Books.{empty_book}
use Rattle.mdl_graph.specs.declared.cycle.Member.{Member}
use Rattle.mdl_graph.specs.GraphLaws.{sessions_of, IsWaiting}
use Rattle.mdl_graph.specs.Graphs.{deadlock_in}
use Rattle.mdl_graph.specs.Victims.{victim_of}
use Rattle.mdl_graph.specs.WaitsFor.{waits_for}
use Rattle.mdl_core.specs.declared.pending.Pending.{Pending}
use Rattle.mdl_core.specs.CoreCalls.{has_settled}
use Rattle.mdl_core.specs.Cores.{Core, book_at, seat_at, key_at, has_key}
use Rattle.mdl_core.specs.CoreSystems.{waiter_in, system_of}
use Rattle.mdl_core.specs.Ties.{IsTied}
use Rattle.mdl_core.proofs.CoreReads.{of_within}
use Rattle.mdl_core.proofs.CoreWaiting.{wait-at}
use Rattle.mdl_core.proofs.DeadlockWaits.{wishes-from, wishes-there, wishes-place, waiter-ticket, waits-found, waits-from}
use Rattle.mdl_system.specs.Deadlocks.{Wishes, WaitsFor, IsDeadlock, IsChosenDeadlock, Weighs, IsVictimOf}
use Rattle.mdl_system.proofs.CycleLemmas.{none-of_books, some-of_books}

module _ (core : Core) (tied : IsTied core) where
  -- ---- weights

  same-at : (books : List BookView) (k : ℕ) (d e : BookView) → k < length books → slice_index_or books k d ≡ slice_index_or books k e
  same-at [] k d e inside = absurd (omega (arith, inside))
  same-at (book ∷ books) zero d e inside = refl
  same-at (book ∷ books) (suc k) d e inside = same-at books k d e (omega (arith, inside))

  -- a member weighs what its session wishes for
  member-weighs : (member : Member) → IsWaiting (has_settled core) core.books member → Weighs (system_of core) member.session member.weight
  member-weighs member (unsettled, (k, book, inside, here, found)) =
      let place : ℕ = suc k in
      let has : has_key place core ≡ true = of_within place (length core.books) (omega arith) (omega (arith, inside)) in
      let index : place - 1 ≡ k = omega arith in
      let at : book_at place core ≡ book =
      ap (λ n. slice_index_or core.books n (empty_book global_key)) index ∙ same-at core.books k (empty_book global_key) book inside ∙ here in
      let ticket : Ticket = found.1 in
      let among : Contains (book_at place core).waiting ticket = subst (λ (b : BookView). Contains b.waiting ticket) (sym at) (found.0, found.2, found.3) in
      let own : ticket.session ≡ member.session = sym (ap (λ (m : Member). m.session) found.4) in (
        key_at place core,
        waiter_in core ticket,
        wishes-from core tied place ticket member.session has among own unsettled,
        ap (λ (m : Member). m.weight) found.4 ∙ (λ i. weight_of (sym at i).key.namespace (sym (waiter-ticket core ticket) i).mode),
      )

  -- which is for what its only wait is
  weighs-wait : (session weight : ℕ) → Weighs (system_of core) session weight
      → (wait : Pending) × ((seat_at session core).wait ≡ Some wait) × (weight ≡ weight_of (key_at wait.place core).namespace wait.mode)
  weighs-wait session weight (key, wish, wishes, is) =
      let at = wishes-place core tied session key wish wishes in
      let there = wishes-there core tied at.0 session wish at.1 (subst (λ k. Wishes (system_of core) session k wish) (sym at.2) wishes) in
      let h = wait-at core at.0 wish.ticket tied at.1 there.0 in (
        h.0,
        ap (λ n. (seat_at n core).wait) (sym there.1) ∙ h.1.waits,
        is ∙ (λ i. weight_of (sym at.2 i).namespace (sym h.1.stands i).mode)
            ∙ ap (λ n. weight_of (key_at n core).namespace h.0.mode) (sym h.1.there),
      )

  weighs-once : (session one other : ℕ) → Weighs (system_of core) session one → Weighs (system_of core) session other → one ≡ other
  weighs-once session one other weighs also =
      let h = weighs-wait session one weighs in
      let k = weighs-wait session other also in
      let both : Some h.0 ≡ Some k.0 = sym h.1 ∙ k.1 in
      let same : h.0 ≡ k.0 = cc in
      h.2 ∙ ap (λ (wait : Pending). weight_of (key_at wait.place core).namespace wait.mode) same ∙ sym k.2

  -- ---- the deadlock that is found

  passes : (x y z : ℕ) → WaitsFor (system_of core) x y → WaitsFor (system_of core) y z → waits_for (has_settled core) core.books x y ≡ true
  passes x y z tie on = waits-from core tied x y tie

  pub none-found : (who : ℕ) → deadlock_in (has_settled core) core.books who ≡ None → (cycle : List ℕ) → IsDeadlock (system_of core) who cycle → ⊥
  none-found who none cycle is =
      none-of_books (has_settled core) core.books who (WaitsFor (system_of core)) (WaitsFor (system_of core)) (waits-found core tied) passes none cycle is

  pub some-found : (who : ℕ) (members : List Member) → deadlock_in (has_settled core) core.books who ≡ Some members
      → IsChosenDeadlock (system_of core) who (sessions_of members) × IsVictimOf (system_of core) (sessions_of members) (victim_of members)
  some-found who members found =
      let h = some-of_books (has_settled core) core.books who (WaitsFor (system_of core)) (WaitsFor (system_of core)) (waits-found core tied) passes
      (Weighs (system_of core)) weighs-once member-weighs members found in
      ((h.0, h.1), h.2)

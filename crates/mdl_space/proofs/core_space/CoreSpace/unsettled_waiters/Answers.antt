-- Each waiter whose wait is unsettled is put into the set.
use Rattle.std.proofs.Common.{◌≡◌, ◌&&◌, List, take, sym, ap, ◌∙◌, subst}
use Rattle.std.specs.Prelude.{All}
use Rattle.std.specs.List.{list_any}
use Rattle.std.specs.FinSet as set
use Rattle.std.specs.Ordering.{nat_cmp}
use Rattle.std.proofs.lemmas.List.{take_all}
use Rattle.mdl_book.specs.declared.book_view.BookView.{BookView}
use Rattle.mdl_book.specs.declared.ticket.Ticket.{Ticket}
use Rattle.mdl_core.specs.Words.{Core, book_at, has_unsettled_wait}
use Rattle.mdl_space.proofs.ServingLemmas.{is_of, book_here, set-noted, set-skipped, set-tells}
use Rattle.mdl_space.proofs.core_space.CoreSpace.unsettled_waiters.Goals as goal
use Rattle.mdl_space.proofs.core_space.CoreSpace.unsettled_waiters.Goals.{then-has_unsettled_wait, else-has_unsettled_wait}

pub loop-ticket-init : goal.loop-ticket-init
loop-ticket-init c = rw c.new-unsettled.ensures (λ who. set.contains-empty nat_cmp who)

pub loop-ticket-preserved : goal.loop-ticket-preserved
loop-ticket-preserved c =
    elim c.if-has_unsettled_wait.branch [
      | then-has_unsettled_wait w ↦ rw (w.unsettled-is, w.insert.ensures)
          (set-noted c.loop-ticket.unsettled c.waiting-waiting.result.now c.loop-ticket.ticket-index _ c.args.self.now c.loop-ticket-test.true c.loop-ticket.invariant
          (sym c.has_unsettled_wait.ensures ∙ w.if-has_unsettled_wait.true))
      | else-has_unsettled_wait w ↦ rw w.unsettled-is
          (set-skipped c.loop-ticket.unsettled c.waiting-waiting.result.now c.loop-ticket.ticket-index _ c.args.self.now c.loop-ticket-test.true c.loop-ticket.invariant
          (sym c.has_unsettled_wait.ensures ∙ w.if-has_unsettled_wait.false))
    ]

pub returns : goal.returns
returns c =
    let core : Core = c.args.self.now in
    let here : c.index.result.now ≡ book_at c.args.place core =
    book_here core _ c.args.place c.from.result c.index.result.now (ap (λ (k : Core). k.books) c.self.view_is) c.requires c.from.ensures c.index.ensures in
    let lists : c.waiting-waiting.result.now ≡ (book_at c.args.place core).waiting = c.waiting-waiting.ensures ∙ ap (λ (b : BookView). b.waiting) here in
    let whole : take c.loop-ticket.ticket-index c.waiting-waiting.result.now ≡ c.waiting-waiting.result.now = take_all c.loop-ticket.ticket-index c.waiting-waiting.result.now c.loop-ticket-test.false in
    subst (λ (waiting : List Ticket). All (λ (ticket : Ticket). set.contains c.loop-ticket.unsettled ticket.session ≡ has_unsettled_wait ticket.session core) waiting) lists
    (set-tells c.loop-ticket.unsettled c.waiting-waiting.result.now core
    (λ who. c.loop-ticket.invariant who ∙ ap (λ (xs : List Ticket). list_any (is_of who) xs && has_unsettled_wait who core) whole))

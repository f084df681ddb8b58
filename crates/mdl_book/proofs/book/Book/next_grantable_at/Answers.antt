-- The first ticket that is ready is found, with its index. The counts of the word tell just what a list of its fast tickets would.
use Rattle.std.proofs.Common.{◌≡◌, ◌<◌, ◌≤◌, ◌&&◌, Bool, true, false, List, Some, length, refl, sym, ap, subst, ◌∙◌, arith}
use Rattle.std.specs.Prelude.{slice_index_or}
use Rattle.std.specs.FinSet as set
use Rattle.std.proofs.lemmas.Bool.{and_from}
use Rattle.mdl_key.specs.declared.mode.Mode.TheVariants as mode_as
use Rattle.mdl_book.specs.declared.book_view.BookView.{BookView}
use Rattle.mdl_book.specs.declared.ticket.Ticket.{Ticket}
use Rattle.mdl_book.specs.Books.{lock_kind, is_ready}
use Rattle.mdl_book.specs.FastTickets.{can_be_granted}
use Rattle.mdl_book.proofs.FastLemmas.{next_grantable_at-fast}
use Rattle.mdl_book.proofs.TicketLemmas.{first_found, first_later, none_found}
use Rattle.mdl_book.proofs.book.Book.next_grantable_at.Goals as goal
use Rattle.mdl_book.proofs.book.Book.next_grantable_at.Goals.{else-contains-via-then-contains+else-can_grant, else-contains-via-else-contains}

none : Ticket
none = record { number = 0; session = 0; mode = mode_as.IX }

pub loop-index-init : goal.loop-index-init
loop-index-init c = omega arith

pub returns-then-can_grant-clause-exact : goal.returns-then-can_grant-clause-exact
unfolding none
returns-then-can_grant-clause-exact c =
    let book : BookView = c.args.self.now in
    let index = c.loop-index.index in
    let ready : Ticket → Bool = is_ready c.args.word.0 c.args.unsettled.now book in
    let tickets : c.as_slice-ticket-items.result.now ≡ book.waiting = c.as_slice-ticket-items.ensures ∙ ap (λ (b : BookView). b.waiting) c.self.view_is in
    let inside : index < length c.as_slice-ticket-items.result.now = omega (arith, c.loop-index-test.true, c.loop-index.auto.index-end) in
    let passes : ready (slice_index_or c.as_slice-ticket-items.result.now index none) ≡ true =
    and_from _ _ (sym c.contains.ensures ∙ c.if-contains.true) (sym c.can_grant.ensures.exact ∙ c.if-can_grant.true) in
    ap (λ (ts : List Ticket). Some (index, slice_index_or ts index none)) tickets
    ∙ first_found ready book.waiting index none c.loop-index.invariant (subst (λ (ts : List Ticket). index < length ts) tickets inside)
    (subst (λ (ts : List Ticket). ready (slice_index_or ts index none) ≡ true) tickets passes)

pub returns-then-can_grant-clause-counted : goal.returns-then-can_grant-clause-counted
returns-then-can_grant-clause-counted c = λ fast counts others.
    returns-then-can_grant-clause-exact c ∙ next_grantable_at-fast counts c.args.unsettled.now c.args.self.now refl others

pub loop-index-preserved : goal.loop-index-preserved
unfolding none
loop-index-preserved c =
    let book : BookView = c.args.self.now in
    let index = c.loop-index.index in
    let items : List Ticket = c.as_slice-ticket-items.result.now in
    let ready : Ticket → Bool = is_ready c.args.word.0 c.args.unsettled.now book in
    let tickets : items ≡ book.waiting = c.as_slice-ticket-items.ensures ∙ ap (λ (b : BookView). b.waiting) c.self.view_is in
    let inside : index < length items = omega (arith, c.loop-index-test.true, c.loop-index.auto.index-end) in
    let left : Bool = set.contains c.args.unsettled.now (slice_index_or items index none).session in
    let can : Bool = can_be_granted (lock_kind book) book.granted book.waiting c.args.word.0 (slice_index_or items index none).session (slice_index_or items index none).mode in
    let fails : (left && can) ≡ false = elim c.else-contains.branch [
      | else-contains-via-then-contains+else-can_grant w ↦ and_second left can (sym w.can_grant.ensures.exact ∙ w.if-can_grant.false)
      | else-contains-via-else-contains w ↦ and_first left can (sym c.contains.ensures ∙ w.if-contains.false)
    ] in
    first_later ready book.waiting index none c.loop-index.invariant (subst (λ (ts : List Ticket). index < length ts) tickets inside)
    (subst (λ (ts : List Ticket). ready (slice_index_or ts index none) ≡ false) tickets fails)
  where
    and_first : (a b : Bool) → a ≡ false → (a && b) ≡ false
    and_first true b e = absurd (cc)
    and_first false b e = refl

    and_second : (a b : Bool) → b ≡ false → (a && b) ≡ false
    and_second true b e = e
    and_second false b e = refl

pub returns-clause-exact : goal.returns-clause-exact
returns-clause-exact c =
    let book : BookView = c.args.self.now in
    let tickets : c.as_slice-ticket-items.result.now ≡ book.waiting = c.as_slice-ticket-items.ensures ∙ ap (λ (b : BookView). b.waiting) c.self.view_is in
    let past : length c.as_slice-ticket-items.result.now ≤ c.loop-index.index = omega (arith, c.loop-index-test.false, c.loop-index.auto.index-end) in
    let over : length book.waiting ≤ c.loop-index.index = subst (λ (ts : List Ticket). length ts ≤ c.loop-index.index) tickets past in
    none_found (is_ready c.args.word.0 c.args.unsettled.now book) book.waiting (omega (arith, over, c.loop-index.invariant))

pub returns-clause-counted : goal.returns-clause-counted
returns-clause-counted c = λ fast counts others. returns-clause-exact c ∙ next_grantable_at-fast counts c.args.unsettled.now c.args.self.now refl others

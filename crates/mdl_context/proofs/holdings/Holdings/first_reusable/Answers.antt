-- Each number at the place is looked at, until its ticket passes.
use Rattle.std.proofs.Common.{◌≡◌, get_or, Some, None, sym, ap, ◌∙◌, rules}
use Rattle.std.specs.Prelude.{find}
use Rattle.mdl_context.specs.Contexts.{AreRising}
use Rattle.mdl_context.specs.Holdings.{has_ticket_number, numbers_among}
use Rattle.mdl_context.specs.Terms.{serves_again}
use Rattle.mdl_context.proofs.PlaceLemmas.{again-at, from-start, from-end, from-passing, from-failing, number-found}
use Rattle.mdl_context.proofs.holdings.Holdings.first_reusable.Goals as goal

pub loop-id-init : goal.loop-id-init
loop-id-init c = from-start c.self.inside.tickets.items c.args.place (serves_again c.args.place c.args.terms.now) (again-at c.args.place c.args.terms.now)

pub returns-in_err-ticket : goal.returns-in_err-ticket
returns-in_err-ticket c =
    let kept = c.self.inside.tickets.items in
    let place = c.args.place in
    let rising : AreRising kept = rw (← c.self.view_is) at c.requires in
    let same : c.numbers-id-items.result.now ≡ numbers_among place kept = c.numbers-id-items.ensures ∙ c.self.invariant.0 place in
    let none : find (has_ticket_number (get_or c.numbers-id-items.result.now c.loop-id.id-index 0)) kept ≡ None = search rules in
    absurd (number-found kept place (serves_again c.args.place c.args.terms.now) rising _ same _ c.loop-id-test.true none)

pub returns-then-can_reuse : goal.returns-then-can_reuse
returns-then-can_reuse c =
    let kept = c.self.inside.tickets.items in
    let place = c.args.place in
    let rising : AreRising kept = rw (← c.self.view_is) at c.requires in
    let same : c.numbers-id-items.result.now ≡ numbers_among place kept = c.numbers-id-items.ensures ∙ c.self.invariant.0 place in
    let t = c.in_ok-ticket.ticket.now in
    let found : find (has_ticket_number (get_or c.numbers-id-items.result.now c.loop-id.id-index 0)) kept ≡ Some t = search rules in
    let first = from-passing kept place (serves_again c.args.place c.args.terms.now) rising _ same _ c.loop-id-test.true t found (sym c.can_reuse.ensures ∙ c.if-can_reuse.true) in
    rw (← c.self.view_is) (ap (λ held. Some held) c.held.ensures ∙ sym first ∙ c.loop-id.invariant)

pub loop-id-preserved : goal.loop-id-preserved
loop-id-preserved c =
    let kept = c.self.inside.tickets.items in
    let place = c.args.place in
    let rising : AreRising kept = rw (← c.self.view_is) at c.requires in
    let same : c.numbers-id-items.result.now ≡ numbers_among place kept = c.numbers-id-items.ensures ∙ c.self.invariant.0 place in
    let t = c.in_ok-ticket.ticket.now in
    let found : find (has_ticket_number (get_or c.numbers-id-items.result.now c.loop-id.id-index 0)) kept ≡ Some t = search rules in
    from-failing kept place (serves_again c.args.place c.args.terms.now) rising _ same _ c.loop-id-test.true t found (sym c.can_reuse.ensures ∙ c.if-can_reuse.false) ∙ c.loop-id.invariant

pub returns : goal.returns
returns c =
    let kept = c.self.inside.tickets.items in
    let place = c.args.place in
    let rising : AreRising kept = rw (← c.self.view_is) at c.requires in
    let same : c.numbers-id-items.result.now ≡ numbers_among place kept = c.numbers-id-items.ensures ∙ c.self.invariant.0 place in
    rw (← c.self.view_is) (sym (from-end kept place (serves_again c.args.place c.args.terms.now) rising _ same _ c.loop-id-test.false) ∙ c.loop-id.invariant)

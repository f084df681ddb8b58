-- Each number at the place is looked at, until its ticket passes.
use Rattle.std.proofs.Common.{◌≡◌, get_or, Some, None, sym, ap, ◌∙◌, rules}
use Rattle.std.specs.Prelude.{find}
use Rattle.mdl_context.specs.Contexts.{AreRising}
use Rattle.mdl_context.specs.Holdings.{has_ticket_number, numbers_among}
use Rattle.mdl_context.specs.Terms.{meets}
use Rattle.mdl_context.proofs.PlaceLemmas.{meets-at, from-start, from-end, from-passing, from-failing, number-found}
use Rattle.mdl_context.proofs.holdings.Holdings.first_sufficient.Goals as goal

pub loop-id-init : goal.loop-id-init
loop-id-init c = from-start c.self.inside.tickets.items c.args.place (meets c.args.place c.args.terms.now) (meets-at c.args.place c.args.terms.now)

pub returns-in_err-ticket : goal.returns-in_err-ticket
returns-in_err-ticket c =
    let kept = c.self.inside.tickets.items in
    let place = c.args.place in
    let rising : AreRising kept = rw (← c.self.view_is) at c.requires in
    let same : c.numbers-id-items.result.now ≡ numbers_among place kept = c.numbers-id-items.ensures ∙ c.self.invariant.0 place in
    let none : find (has_ticket_number (get_or c.numbers-id-items.result.now c.loop-id.id-index 0)) kept ≡ None = search rules in
    absurd (number-found kept place (meets c.args.place c.args.terms.now) rising _ same _ c.loop-id-test.true none)

pub returns-then-is_met_by : goal.returns-then-is_met_by
returns-then-is_met_by c =
    let kept = c.self.inside.tickets.items in
    let place = c.args.place in
    let rising : AreRising kept = rw (← c.self.view_is) at c.requires in
    let same : c.numbers-id-items.result.now ≡ numbers_among place kept = c.numbers-id-items.ensures ∙ c.self.invariant.0 place in
    let t = c.in_ok-ticket.ticket.now in
    let found : find (has_ticket_number (get_or c.numbers-id-items.result.now c.loop-id.id-index 0)) kept ≡ Some t = search rules in
    let first = from-passing kept place (meets c.args.place c.args.terms.now) rising _ same _ c.loop-id-test.true t found (sym c.is_met_by.ensures ∙ c.if-is_met_by.true) in
    rw (← c.self.view_is) (ap (λ held. Some held) c.held.ensures ∙ sym first ∙ c.loop-id.invariant)

pub loop-id-preserved : goal.loop-id-preserved
loop-id-preserved c =
    let kept = c.self.inside.tickets.items in
    let place = c.args.place in
    let rising : AreRising kept = rw (← c.self.view_is) at c.requires in
    let same : c.numbers-id-items.result.now ≡ numbers_among place kept = c.numbers-id-items.ensures ∙ c.self.invariant.0 place in
    let t = c.in_ok-ticket.ticket.now in
    let found : find (has_ticket_number (get_or c.numbers-id-items.result.now c.loop-id.id-index 0)) kept ≡ Some t = search rules in
    from-failing kept place (meets c.args.place c.args.terms.now) rising _ same _ c.loop-id-test.true t found (sym c.is_met_by.ensures ∙ c.if-is_met_by.false) ∙ c.loop-id.invariant

pub returns : goal.returns
returns c =
    let kept = c.self.inside.tickets.items in
    let place = c.args.place in
    let rising : AreRising kept = rw (← c.self.view_is) at c.requires in
    let same : c.numbers-id-items.result.now ≡ numbers_among place kept = c.numbers-id-items.ensures ∙ c.self.invariant.0 place in
    rw (← c.self.view_is) (sym (from-end kept place (meets c.args.place c.args.terms.now) rising _ same _ c.loop-id-test.false) ∙ c.loop-id.invariant)

-- No number and no place is changed.
use Rattle.std.proofs.Common.{◌≡◌, Some, None, sym, ap, ◌∙◌, refl}
use Rattle.std.specs.Prelude.{position, slice_set}
use Rattle.std.proofs.lemmas.List.{length-set}
use Rattle.mdl_context.specs.Contexts.{AreRising}
use Rattle.mdl_context.specs.Holdings.{has_ticket_number, with_kept_mode}
use Rattle.mdl_context.proofs.ModeLemmas.{in_mode-at, in_mode-none, numbers-in_mode}
use Rattle.mdl_context.proofs.holdings.Holdings.set_mode.Goals as goal

pub invariant_of-self : goal.invariant_of-self
invariant_of-self c =
    let kept = c.self.inside.tickets.items in
    let rising : AreRising kept = rw (← c.self.view_is) at c.requires in
    let place : Some c.in-Some.at ≡ position (has_ticket_number c.args.id) kept = sym c.in-Some.is ∙ c.index_of.ensures ∙ ap (position (has_ticket_number c.args.id)) c.deref.ensures.value in
    let now : slice_set kept c.in-Some.at (record c.index_mut.result.now { mode = c.args.mode }) ≡ with_kept_mode c.args.id (λ _. c.args.mode) kept =
    in_mode-at c.args.id (λ _. c.args.mode) kept c.in-Some.at c.index_mut.result.now c.args.mode rising place c.index_mut.ensures.value refl in (
      λ q. c.self.invariant.0 q ∙ sym (rw now (numbers-in_mode c.args.id (λ _. c.args.mode) q kept)),
      rw (length-set kept c.in-Some.at (record c.index_mut.result.now { mode = c.args.mode })) c.self.invariant.1,
      c.self.invariant.2,
    )

pub returns-in-Some-clause-kept : goal.returns-in-Some-clause-kept
returns-in-Some-clause-kept c =
    let kept = c.self.inside.tickets.items in
    let rising : AreRising kept = rw (← c.self.view_is) at c.requires in
    let place : Some c.in-Some.at ≡ position (has_ticket_number c.args.id) kept = sym c.in-Some.is ∙ c.index_of.ensures ∙ ap (position (has_ticket_number c.args.id)) c.deref.ensures.value in
    rw (← c.self.view_is)
    (in_mode-at c.args.id (λ _. c.args.mode) kept c.in-Some.at c.index_mut.result.now c.args.mode rising place c.index_mut.ensures.value refl)

pub returns-in_default-clause-kept : goal.returns-in_default-clause-kept
returns-in_default-clause-kept c =
    let kept = c.self.inside.tickets.items in
    let place : None ≡ position (has_ticket_number c.args.id) kept = sym c.in_default.is ∙ c.index_of.ensures ∙ ap (position (has_ticket_number c.args.id)) c.deref.ensures.value in
    rw (← c.self.view_is) (sym (in_mode-none c.args.id (λ _. c.args.mode) kept place))

-- The index by place has each ticket. Without tickets and wait nothing is needed.
use Rattle.std.proofs.Common.{◌≡◌, ◌∙◌, [], ℕ, arith, rules, subst, sym, true}
use Rattle.std.specs.Prelude.{◌==◌}
use Rattle.std.specs.Vec.{vec_len}
use Rattle.std.proofs.lemmas.Bool.Decides.{nat_tests}
use Rattle.std.proofs.lemmas.List.{nil_from_length}
use Rattle.std.proofs.lemmas.List.Elements.{filter_agree}
use Rattle.mdl_key.specs.Keys.{KeyName}
use Rattle.mdl_context.proofs.KnownLemmas.{needed-told}
use Rattle.mdl_context.proofs.TidyLemmas.{nothing-known}
use Rattle.mdl_context.specs.declared.spare.Spare.TheVariants.{Nowhere}
use Rattle.mdl_context.specs.Holdings.{needs_place}
use Rattle.mdl_context.specs.Spares.{AreMarked}
use Rattle.mdl_context.proofs.SpareLemmas.{marked-needed}
use Rattle.mdl_context.proofs.holdings.Holdings.forget_unneeded.Goals as goal

pub invariant_of-self-2 : goal.invariant_of-self-2
invariant_of-self-2 c =
    let needs = needs_place c.self.inside.by_place c.self.inside.wait in (
      c.self.invariant.0,
      c.self.invariant.1,
      subst (AreMarked Nowhere needs) (sym c.forget_unneeded.ensures) (marked-needed c.self.inside.known needs Nowhere),
    )

pub returns-clause-known : goal.returns-clause-known
returns-clause-known c = λ who. rw (← c.self.view_is)
    (c.forget_unneeded.ensures
    ∙ filter_agree _ _ (λ (entry : KeyName × ℕ). needed-told c.self.inside.tickets.items c.self.inside.by_place c.self.inside.wait entry.1 c.self.invariant.0) c.self.inside.known)

pub returns-then-is_none-clause-known : goal.returns-then-is_none-clause-known
returns-then-is_none-clause-known c = λ who.
    let tickets = c.self.inside.tickets in
    let empty : (vec_len tickets == 0) ≡ true = sym c.is_empty.ensures ∙ c.if-is_empty.true in
    let count : vec_len tickets ≡ 0 = grind (arith, nat_tests, empty) in
    let none : tickets.items ≡ [] = nil_from_length tickets.items (omega (arith, count, tickets.ok)) in
    rw (← c.self.view_is)
    (c.forget_all.ensures ∙ sym (nothing-known (record { who = who; kept = tickets.items; known = c.self.inside.known; wait = c.self.inside.wait }) none (search rules)))

-- All known places but this one are needed.
use Rattle.std.proofs.Common.{◌≡◌, ◌∙◌, ap, subst, sym}
use Rattle.std.specs.Prelude.{◌==◌, filter, not}
use Rattle.std.proofs.lemmas.List.Elements.{filter_agree}
use Rattle.mdl_context.specs.declared.spare.Spare.TheVariants.{Nowhere}
use Rattle.mdl_context.specs.Contexts.{ContextView}
use Rattle.mdl_context.specs.Holdings.{HoldingsView, context_of, needs_place}
use Rattle.mdl_context.specs.Spares.{AreMarked}
use Rattle.mdl_context.specs.Tidying.{is_needed}
use Rattle.mdl_context.proofs.KnownLemmas.{Entry, needed-told}
use Rattle.mdl_context.proofs.SpareLemmas.{marked-needed, one-spare, others-needed}
use Rattle.mdl_context.proofs.holdings.Holdings.forget_spare.Goals as goal

pub returns-clause-known : goal.returns-clause-known
returns-clause-known c = λ who.
    let same : c.self.inside.known ≡ c.args.self.now.known = ap (λ (v : HoldingsView). v.known) c.self.view_is in
    c.forget_at.ensures.known ∙ ap (filter (λ (e : Entry). not (e.1 == c.args.place))) same
    ∙ others-needed (is_needed (context_of who c.args.self.now)) c.args.place (c.requires.spare who) c.args.self.now.known (c.requires.others who)

pub returns-clause-spare : goal.returns-clause-spare
returns-clause-spare c = λ who.
    let same : c.self.inside.known ≡ c.args.self.now.known = ap (λ (v : HoldingsView). v.known) c.self.view_is in
    one-spare (is_needed (context_of who c.args.self.now)) c.args.place (c.requires.spare who) c.args.self.now.known (c.requires.others who)
    ∙ rw same at c.forget_at.ensures.spare

pub invariant_of-self : goal.invariant_of-self
invariant_of-self c =
    let kept = c.self.inside.tickets.items in
    let index = c.self.inside.by_place in
    let wait = c.self.inside.wait in
    let known = c.self.inside.known in
    let context : ContextView = record { who = 0; kept = kept; known = known; wait = wait } in
    let left : c.forget_at.new.self ≡ filter (λ (e : Entry). is_needed context e.1) known = rw (← c.self.view_is) at (returns-clause-known c 0) in
    let needed : c.forget_at.new.self ≡ filter (λ (e : Entry). needs_place index wait e.1) known =
    left ∙ filter_agree _ _ (λ (e : Entry). sym (needed-told kept index wait e.1 c.self.invariant.0)) known in (
      c.self.invariant.0,
      c.self.invariant.1,
      subst (AreMarked Nowhere (needs_place index wait)) (sym needed) (marked-needed known (needs_place index wait) Nowhere),
    )

-- Each known place is needed.
use Rattle.std.proofs.Common.{◌≡◌, ◌∙◌, [], ap, subst, sym}
use Rattle.std.specs.Prelude.{filter}
use Rattle.std.proofs.lemmas.List.Elements.{filter_agree}
use Rattle.mdl_context.specs.declared.spare.Spare.TheVariants.{Nowhere}
use Rattle.mdl_context.specs.Contexts.{ContextView}
use Rattle.mdl_context.specs.Holdings.{needs_place}
use Rattle.mdl_context.specs.Spares.{AreMarked}
use Rattle.mdl_context.specs.Tidying.{unneeded}
use Rattle.mdl_context.proofs.KnownLemmas.{Entry, needed-told}
use Rattle.mdl_context.proofs.SpareLemmas.{marked-needed}
use Rattle.mdl_context.proofs.TidyLemmas.{tidied-same}
use Rattle.mdl_context.proofs.holdings.Holdings.note_tidy.Goals as goal

pub invariant_of-self : goal.invariant_of-self
invariant_of-self c =
    let kept = c.self.inside.tickets.items in
    let index = c.self.inside.by_place in
    let wait = c.self.inside.wait in
    let known = c.self.inside.known in
    let context : ContextView = record { who = 0; kept = kept; known = known; wait = wait } in
    let none : unneeded context ≡ [] = rw (← c.self.view_is) at (c.requires 0) in
    let needed : known ≡ filter (λ (e : Entry). needs_place index wait e.1) known =
    ap (λ (left : ContextView). left.known) (sym (tidied-same context none))
    ∙ filter_agree _ _ (λ (e : Entry). sym (needed-told kept index wait e.1 c.self.invariant.0)) known in (
      c.self.invariant.0,
      c.self.invariant.1,
      subst (AreMarked Nowhere (needs_place index wait)) (sym needed) (marked-needed known (needs_place index wait) Nowhere),
    )

-- The index by place has each ticket.
use Rattle.std.proofs.Common.{◌∙◌, Bool, ap, sym}
use Rattle.std.specs.Prelude.{◌||◌}
use Rattle.mdl_context.specs.Contexts.{ContextView}
use Rattle.mdl_context.specs.Holdings.{needs_place}
use Rattle.mdl_context.specs.Spares.{marks}
use Rattle.mdl_context.specs.Tidying.{is_needed}
use Rattle.mdl_context.proofs.KnownLemmas.{needed-told}
use Rattle.mdl_context.proofs.SpareLemmas.{still-marked}
use Rattle.mdl_context.proofs.holdings.Holdings.spare.Goals as goal

pub returns : goal.returns
returns c = λ who.
    let kept = c.self.inside.tickets.items in
    let index = c.self.inside.by_place in
    let wait = c.self.inside.wait in
    let spare = c.self.inside.spare in
    let context : ContextView = record { who = who; kept = kept; known = c.self.inside.known; wait = wait } in
    rw (← c.self.view_is)
    (still-marked spare spare (needs_place index wait) (is_needed context) c.self.inside.known
    (λ q is. sym (ap (λ (needed : Bool). needed || marks spare q) (needed-told kept index wait q c.self.invariant.0)) ∙ is) c.self.invariant.2)

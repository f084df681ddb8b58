-- No number and no key is changed.
use Rattle.std.proofs.Common.{◌≡◌, ◌++◌, take, drop, length, refl, sym, ap, ◌∙◌}
use Rattle.std.specs.Prelude.{map}
use Rattle.std.proofs.lemmas.List.{length-map, take_at}
use Rattle.mdl_key.specs.declared.mode.Duration.TheVariants.{Explicit}
use Rattle.mdl_context.specs.Holdings.{kept_for}
use Rattle.mdl_context.proofs.PlaceLemmas.{numbers-changed}
use Rattle.mdl_context.proofs.holdings.Holdings.make_explicit.Goals as goal

pub invariant_of-self : goal.invariant_of-self
invariant_of-self c =
    let before = c.self.inside.tickets.items in
    let after = c.make_all_explicit.new.tickets in
    let many : length after ≡ c.self.inside.tickets.len = ap length c.make_all_explicit.ensures ∙ length-map _ (kept_for Explicit) ∙ c.deref_mut.ensures.len in
    let items : take c.self.inside.tickets.len (after ++ drop (length after) before) ≡ map (kept_for Explicit) before =
    take_at after _ _ many ∙ c.make_all_explicit.ensures ∙ ap (map (kept_for Explicit)) c.deref_mut.ensures.value in
    rw items (
      λ q. c.self.invariant.0 q ∙ sym (numbers-changed (kept_for Explicit) (λ t. refl) (λ t. refl) q before),
      rw (length-map before (kept_for Explicit)) c.self.invariant.1,
      c.self.invariant.2,
    )

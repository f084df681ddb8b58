-- No number and no place is changed.
use Rattle.std.proofs.Common.{◌≡◌, ◌++◌, take, drop, length, sym, ap, ◌∙◌}
use Rattle.std.specs.Prelude.{map}
use Rattle.std.proofs.lemmas.List.{length-map, take_at}
use Rattle.mdl_context.specs.Holdings.{lasting}
use Rattle.mdl_context.proofs.PlaceLemmas.{held-lasting, numbers-changed}
use Rattle.mdl_context.proofs.holdings.Holdings.set_duration.Goals as goal

pub invariant_of-self : goal.invariant_of-self
invariant_of-self c =
    let change = lasting c.args.id c.args.duration in
    let same = held-lasting c.args.id c.args.duration in
    let before = c.self.inside.tickets.items in
    let after = c.keep_one_for.new.tickets in
    let many : length after ≡ c.self.inside.tickets.len = ap length c.keep_one_for.ensures ∙ length-map _ change ∙ c.deref_mut.ensures.len in
    let items : take c.self.inside.tickets.len (after ++ drop (length after) before) ≡ map change before =
    take_at after _ _ many ∙ c.keep_one_for.ensures ∙ ap (map change) c.deref_mut.ensures.value in
    rw items (
      λ q. c.self.invariant.0 q ∙ sym (numbers-changed change (λ t. ap (λ held. held.id) (same t)) (λ t. ap (λ held. held.place) (same t)) q before),
      rw (length-map before change) c.self.invariant.1,
      c.self.invariant.2,
    )

-- A new space serves both sessions.
use Rattle.std.proofs.Common.{ap, arith}
use Rattle.mdl_core.specs.Words.{locks_at}
use Rattle.mdl_growth_trials.proofs.PairLemmas.{fresh_served}
use Rattle.mdl_growth_trials.proofs.places.Hall.new.Goals as goal

pub invariant_of-result : goal.invariant_of-result
invariant_of-result c =
    let speaks = c.in_ok-space.ensures.speaks in
    let made = c.in_ok-space.ensures.made in
    fresh_served c.in_ok-space.space _ _ c.new.ensures c.new-2.ensures (speaks 1 (omega arith) (omega arith)) (speaks 2 (omega arith) (omega arith))
    (ap (λ s. (locks_at s 1).held) made, ap (λ s. (locks_at s 1).wait) made) (ap (λ s. (locks_at s 2).held) made, ap (λ s. (locks_at s 2).wait) made)

-- A new space serves both sessions.
use Rattle.std.proofs.Common.{ap, arith}
use Rattle.mdl_core.specs.Words.{locks_at}
use Rattle.mdl_growth_trials.proofs.PairLemmas.{fresh_runners}
use Rattle.mdl_growth_trials.proofs.core_pair.CorePair.new.Goals as goal

pub invariant_of-result : goal.invariant_of-result
invariant_of-result c =
    let speaks = c.in_ok-space.ensures.speaks in
    let made = c.in_ok-space.ensures.made in
    let first = c.in-Some.ensures in
    let second = c.in-Some-new_runner.ensures in
    fresh_runners c.in_ok-space.space _ _ _ _ first.context second.context first.cache second.cache
    (speaks 1 (omega arith) (omega arith)) (speaks 2 (omega arith) (omega arith)) (ap (λ s. (locks_at s 1).held) made, ap (λ s. (locks_at s 1).wait) made) (ap (λ s. (locks_at s 2).held) made, ap (λ s. (locks_at s 2).wait) made)

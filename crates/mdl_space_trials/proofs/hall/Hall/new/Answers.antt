-- A new space serves all sessions.
use Rattle.std.proofs.Common.{refl, sym, subst, arith}
use Rattle.mdl_calls.specs.Words.{HasNothing}
use Rattle.mdl_core.specs.CoreJoins.{locks_at}
use Rattle.mdl_space_trials.proofs.contexts.HallLemmas.{fresh}
use Rattle.mdl_space_trials.proofs.hall.Hall.new.Goals as goal

pub invariant_of-result : goal.invariant_of-result
invariant_of-result c =
    let space = c.in_ok-space.space in
    let speaks = c.in_ok-space.ensures.speaks in
    let made = c.in_ok-space.ensures.made in
    let one = fresh space 1 c.new.result c.new.ensures (speaks 1 (omega arith) (omega arith)) (subst (λ s. HasNothing (locks_at s 1)) (sym made) (refl, refl)) in
    let two = fresh space 2 c.new-2.result c.new-2.ensures (speaks 2 (omega arith) (omega arith)) (subst (λ s. HasNothing (locks_at s 2)) (sym made) (refl, refl)) in
    let three = fresh space 3 c.new-3.result c.new-3.ensures (speaks 3 (omega arith) (omega arith)) (subst (λ s. HasNothing (locks_at s 3)) (sym made) (refl, refl)) in
    let four = fresh space 4 c.new-4.result c.new-4.ensures (speaks 4 (omega arith) (omega arith)) (subst (λ s. HasNothing (locks_at s 4)) (sym made) (refl, refl)) in
    let five = fresh space 5 c.new-5.result c.new-5.ensures (speaks 5 (omega arith) (omega arith)) (subst (λ s. HasNothing (locks_at s 5)) (sym made) (refl, refl)) in
    (one.0, one.1, (two.0, two.1, (three.0, three.1, (four.0, four.1, (five.0, five.1, tt)))))

-- Nothing is kept, so all of it was met.
use Rattle.std.proofs.Common.{sym, subst}
use Rattle.mdl_calls.specs.Words.{AreMet}
use Rattle.mdl_calls.proofs.CacheLemmas.{none-met}
use Rattle.mdl_space_trials.proofs.acts.read_kept.Goals as goal

pub read_kept-outcome-requires-clause-met : goal.read_kept-outcome-requires-clause-met
read_kept-outcome-requires-clause-met g c =
    let made = rw c.in-Ok.is at c.new.ensures.made in
    let met = g.S.LockSpace.has_met c.args.space.now c.args.who in
    subst (AreMet met) (sym made.0) (none-met met)

pub returns-in-0 : goal.returns-in-0
returns-in-0 g c = λ w speaks. g.met.S.LockSpace.laws.keeps _ _ _ _ w speaks c.read_kept-outcome.ensures.joined

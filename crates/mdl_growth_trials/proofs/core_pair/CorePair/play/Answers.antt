-- One session goes on, and the other one is served as before.
use Rattle.mdl_growth_trials.proofs.PairLemmas.{first_runs, second_runs}
use Rattle.mdl_growth_trials.proofs.core_pair.CorePair.play.Goals as goal

pub invariant_of-self : goal.invariant_of-self
invariant_of-self c = first_runs _ _ _ _ _ _ _ _ c.self.invariant c.play.ensures.who c.play.ensures.attends c.play.ensures.others

pub invariant_of-self-else-who-eq1 : goal.invariant_of-self-else-who-eq1
invariant_of-self-else-who-eq1 c =
    second_runs _ _ _ _ _ _ _ _ c.self.invariant c.play-else-who-eq1.ensures.who c.play-else-who-eq1.ensures.attends c.play-else-who-eq1.ensures.others

-- One session makes a call, and the other one is served as before.
use Rattle.mdl_growth_trials.proofs.PairLemmas.{first_calls, second_calls}
use Rattle.mdl_growth_trials.proofs.places.Hall.make.Goals as goal

pub invariant_of-self : goal.invariant_of-self
invariant_of-self c = first_calls _ _ _ _ _ c.self.invariant c.make.ensures.who c.make.ensures.attends c.make.ensures.others

pub invariant_of-self-else-who-eq1 : goal.invariant_of-self-else-who-eq1
invariant_of-self-else-who-eq1 c =
    second_calls _ _ _ _ _ c.self.invariant c.make-else-who-eq1.ensures.who c.make-else-who-eq1.ensures.attends c.make-else-who-eq1.ensures.others

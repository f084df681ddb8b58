-- The session knows the key of the place.
use Rattle.mdl_shared.proofs.Membership.{kind_there}
use Rattle.mdl_run_trials.proofs.shared.steps.visitors.made_slow.Goals as goal

pub materialise-requires-clause-knows : goal.materialise-requires-clause-knows
materialise-requires-clause-knows g c =
    let has = c.in_ok-three.ensures.gained.1 in
    kind_there c.args.place c.args.kind c.read_word_unlatched-before.new.self.me.0.known (rw c.read_word_unlatched-before.ensures.made has.known)

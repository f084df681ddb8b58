-- After such an event the system blocks as much as before.
use Rattle.mdl_system.proofs.BlockingLemmas.{more-blocks, step-blocks}
use Rattle.mdl_system.proofs.laws.only_going_frees.Goals as goal

pub returns : goal.returns
returns g c = λ apply event a b step frees session key mode. more-blocks a b key (step-blocks apply event a b step frees key) session mode

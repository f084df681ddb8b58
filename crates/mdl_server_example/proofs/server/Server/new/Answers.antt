-- A new space serves its sessions.
use Rattle.mdl_server_example.proofs.ServerLemmas.{served-first}
use Rattle.mdl_server_example.proofs.server.Server.new.Goals as goal

pub invariant_of-result : goal.invariant_of-result
invariant_of-result c = served-first c.in_ok-space.space 256 c.args.sessions c.in-Ok.runners.items c.in_ok-space.ensures.made c.in_ok-space.ensures.speaks c.in-Ok.ensures

-- By what covers and what still waits.
use Rattle.mdl_system.proofs.BlockingLemmas.{more-blocks}
use Rattle.mdl_system.proofs.laws.more_blocks_more.Goals as goal

pub returns : goal.returns
returns g c = more-blocks

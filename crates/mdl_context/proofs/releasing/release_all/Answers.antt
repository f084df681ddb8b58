-- First the newest tickets are released, and then the rest.
use Rattle.mdl_context.proofs.releasing.release_all.Goals as goal

pub returns-clause-run : goal.returns-clause-run
returns-clause-run g c = c.release_newest.ensures.run _ c.release_rest.ensures.run

-- The other session is as free as before.
use Rattle.std.proofs.Common.{rules}
use Rattle.mdl_run_trials.proofs.RoomLemmas.{others_free}
use Rattle.mdl_run_trials.proofs.room.makes.Goals as goal

pub returns-in_default-matches : goal.returns-in_default-matches
returns-in_default-matches c = others_free _ _ 2 _ c.start.ensures.others (search rules)

pub returns-in_default-matches-2 : goal.returns-in_default-matches-2
returns-in_default-matches-2 c = others_free _ _ 2 _ c.start.ensures.others (search rules)

pub returns-in-Done : goal.returns-in-Done
returns-in-Done c = others_free _ _ 2 _ c.start.ensures.others (search rules)

pub returns-in-Done-2 : goal.returns-in-Done-2
returns-in-Done-2 c = others_free _ _ 2 _ c.start.ensures.others (search rules)

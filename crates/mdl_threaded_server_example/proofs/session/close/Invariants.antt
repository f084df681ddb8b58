-- A reschedule leaves the session without tickets and wait.
use Rattle.mdl.specs.mdl_calls.Words.{HasNothing}
use Rattle.mdl.specs.mdl_shared.SessionViews.{data_of}
use Rattle.mdl_threaded_server_example.proofs.session.close.Given as goal

abbrev pub invariant-loop : goal.invariant-loop
invariant-loop g l = HasNothing (data_of l.session).own

-- The turns of the sessions so far have been started, and there are passes for those that are left.
use Rattle.mdl_shared.specs.Passes.{manager_table}
use Rattle.mdl_script.specs.Answers.{options_of}
use Rattle.mdl_script.proofs.StartLemmas.{AreStarted}
use Rattle.mdl_script.proofs.turns.start_all.Given as goal

abbrev pub invariant-loop-who : goal.invariant-loop-who
invariant-loop-who g l =
    AreStarted (options_of l.run.patience l.run.cache) l.run.script.now l.mine (manager_table l.run.manager.now) l.fn.passes.items l.who l.turns.items l.passes.items

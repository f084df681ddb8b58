-- One turn more, and then those that are left.
use Rattle.std.proofs.Common.{arith}
use Rattle.mdl_script.specs.Answers.{options_of}
use Rattle.mdl_script.specs.Turns.{IsTurn}
use Rattle.mdl_script.proofs.TurnLemmas.{no_turn, one_turn}
use Rattle.mdl_script.proofs.turns.push_turns.Goals as goal

pub loop-turn-preserved : goal.loop-turn-preserved
loop-turn-preserved g c = one_turn (options_of c.args.run.now.patience c.args.run.now.cache) c.args.run.now.script.now c.args.own.now.who c.args.own.now.answers.items
    (IsTurn (options_of c.args.run.now.patience c.args.run.now.cache) c.args.run.now.script.now c.args.own.now.who) c.in-Some.turn _ _ _ _ _ _ _ _ _ c.in-Some.ensures.steps.0 c.loop-turn.invariant c.in_ok-push_turn.ensures

pub returns : goal.returns
returns g c =
    let none = c.in-None.ensures.steps in let whole = c.loop-turn.turn-iterator.rest.ok.0 in
    no_turn (options_of c.args.run.now.patience c.args.run.now.cache) c.args.run.now.script.now c.args.own.now.who c.args.own.now.answers.items _ _ _ _ _ _ (omega (arith, none.0, whole)) c.loop-turn.invariant.1

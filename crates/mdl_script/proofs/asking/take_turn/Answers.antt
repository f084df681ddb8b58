-- The session had nothing before its lines, and has nothing and owes nothing behind them.
use Rattle.std.proofs.Common.{Ok}
use Rattle.mdl_script.specs.Answers.{options_of}
use Rattle.mdl_script.proofs.ThreadLemmas.{answers-are, paid_behind}
use Rattle.mdl_script.proofs.asking.take_turn.Goals as goal

pub returns-clause-answered : goal.returns-clause-answered
returns-clause-answered g c =
    answers-are {E = Unit {0}} (options_of c.args.run.now.patience c.args.run.now.cache) c.args.run.now.script.now c.args.who c.args.asker.now c.work.new.space
    (Ok c.in_ok-answers.answers) c.requires.speaks c.requires.nothing c.in_ok-answers.ensures.nothing c.in_ok-answers.ensures.reads c.in_ok-answers.ensures.lines

pub returns-clause-paid : goal.returns-clause-paid
returns-clause-paid g c =
    paid_behind (options_of c.args.run.now.patience c.args.run.now.cache) c.args.run.now.script.now c.args.who c.args.asker.now c.work.new.space c.work.result
    c.work.ensures.reads c.requires.paid

pub returns-in_err-answers-clause-paid : goal.returns-in_err-answers-clause-paid
returns-in_err-answers-clause-paid g c =
    paid_behind (options_of c.args.run.now.patience c.args.run.now.cache) c.args.run.now.script.now c.args.who c.args.asker.now c.work.new.space c.work.result
    c.work.ensures.reads c.requires.paid

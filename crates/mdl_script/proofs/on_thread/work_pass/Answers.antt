-- The session that was opened has nothing at the end, and its pass comes back.
use Rattle.mdl_script.specs.Answers.{options_of}
use Rattle.mdl_script.proofs.ThreadLemmas.{answers-are, closed-answers, closed-number, closed-there, paid_behind}
use Rattle.mdl_script.proofs.on_thread.work_pass.Goals as goal

pub close-pass-requires-clause-paid : goal.close-pass-requires-clause-paid
close-pass-requires-clause-paid g c =
    paid_behind (options_of c.args.patience c.args.cache) c.args.script.now c.number-who.result c.open-session.result c.work-answers.new.space c.work-answers.result
    c.work-answers.ensures.reads c.open-session.ensures.paid

pub returns : goal.returns
returns g c =
    let options = options_of c.args.patience c.args.cache in let lines = c.args.script.now in let who = c.number-who.result in
    let a = c.open-session.result in let b = c.work-answers.new.space in
    let opened = c.args.pass in let closed = c.close-pass.result in
    let begun = c.open-session.ensures.opened in let ended = c.close-pass.ensures in
    let are = answers-are options lines who a b c.work-answers.result
    c.number-who.ensures.speaks c.open-session.ensures.nothing c.work-answers.ensures.nothing c.work-answers.ensures.reads c.work-answers.ensures.lines in
    record {
      number = closed-number who opened closed a b begun ended c.number-who.ensures.number c.work-answers.ensures.speaks;
      there = closed-there options lines who opened closed a b c.work-answers.result begun ended c.work-answers.ensures.reads;
      answered = closed-answers options lines who opened closed a b c.work-answers.result begun ended c.number-who.ensures.number are;
    }

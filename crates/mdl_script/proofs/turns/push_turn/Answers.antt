-- The text gains what the session answered, by its thread's promise or as its own.
use Rattle.std.proofs.Common.{IfOk, ap, subst}
use Rattle.std.proofs.lemmas.Option.{MatchOption-at_none, MatchOption-at_some}
use Rattle.mdl_shared.specs.Passes.{pass_number}
use Rattle.mdl_script.specs.Answers.{AnswersBetween, options_of}
use Rattle.mdl_script.specs.Turns.{sent_to}
use Rattle.mdl_script.proofs.TurnLemmas.{pushed_one, pushed_own}
use Rattle.mdl_script.proofs.turns.push_turn.Goals as goal

pub returns-in_ok-answers-in-Some : goal.returns-in_ok-answers-in-Some
returns-in_ok-answers-in-Some g c =
    let options = options_of c.args.run.now.patience c.args.run.now.cache in let lines = c.args.run.now.script.now in
    let promise = c.in-Some.thread.promise in let opened = promise.pass.value in let closed = c.join-pass.result.pass in
    let answers = c.in_ok-answers-in-Some.field-0.items in
    let about = MatchOption-at_some _ _ c.in-Some.thread c.in-Some.is c.requires in
    let kept = subst (λ r. IfOk r (λ told. AnswersBetween (options_of promise.patience promise.cache) promise.script.now (pass_number opened) opened closed told.items))
    c.in_ok-answers-in-Some.was c.join-pass.ensures.answered in
    let are = subst (λ n. AnswersBetween n lines (pass_number opened) opened closed answers) about.2.1
    (subst (λ xs. AnswersBetween (options_of promise.patience promise.cache) xs (pass_number opened) opened closed answers) about.2.0 kept) in
    pushed_one options lines c.args.own.now.who c.args.own.now.answers.items answers c.deref.result.now c.args.turn opened closed _ _ _ _ c.push_answers.result
    (ap sent_to c.in-Some.is) about.0 about.1 c.join-pass.ensures.number c.join-pass.ensures.there are
    c.in_ok-push-in-Some.ensures.items c.deref.ensures.value c.push_answers.ensures

pub returns-in-None : goal.returns-in-None
returns-in-None g c =
    let mine = MatchOption-at_none _ _ c.in-None.is c.requires in
    pushed_own (options_of c.args.run.now.patience c.args.run.now.cache) c.args.run.now.script.now c.args.own.now.who c.args.own.now.answers.items c.deref-in-None.result.now c.args.turn _ _ _
    c.push_answers-in-None.result c.in-None.is mine c.deref-in-None.ensures.value c.push_answers-in-None.ensures

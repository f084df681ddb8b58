-- Each line leaves one line fewer, and one answer more where it is the session's.
use Rattle.std.proofs.Common.{◌≡◌, ℕ, List, Err, drop, length, rules, sym, ap, ◌∙◌, subst, arith}
use Rattle.std.proofs.Math.Seq.{drop-length}
use Rattle.mdl_calls.specs.Words.{Runs}
use Rattle.mdl_context.specs.Contexts.{LeavesOthers}
use Rattle.mdl_context.proofs.OthersLemmas.{both-leave}
use Rattle.mdl_syntax.specs.declared.script.Line.{Line}
use Rattle.mdl_rows.specs.Endings.{Ends, Faults}
use Rattle.mdl_stmt.specs.Attendance.{cached}
use Rattle.mdl_stmt.specs.Stages.{session_of}
use Rattle.mdl_work.specs.Works.{lines_of_session, making}
use Rattle.mdl_work.proofs.WorkLemmas.{follows-all, follows-answered, follows-starved, follows-unkept, next-other, next-own, numbers-on}
use Rattle.mdl_work.proofs.worker.Worker.answer_lines.Goals as goal
use Rattle.mdl_work.proofs.worker.Worker.answer_lines.Goals.{then-line-self+in_ok-reply+in_ok-push, else-line-self}

pub returns-in_err-reply-clause-run : goal.returns-in_err-reply-clause-run
returns-in_err-reply-clause-run g c =
    let joins = cached g.S.LockSpace in
    let kept = c.loop-line.invariant in
    let self = c.args.self.now in
    let line = c.line-item.result in
    let before = session_of c.loop-line.self.runner in
    let after = session_of c.answer-reply.new.self.runner in
    let next = next-own self.who c.args.lines.now c.loop-line.line-index line line c.loop-line-test.true c.line-item.is (c.if-line-self.true ∙ kept.same) in
    let refused : c.from_residual.result ≡ Err _ = search rules in
    let made = subst (λ (n : ℕ). Runs joins (c.loop-line.space, c.loop-line.self.runner.cache) (making n line.statement before) (Faults after) (c.answer-reply.new.space, c.answer-reply.new.self.runner.cache)) kept.patience c.in_err-reply.ensures.run in
    rw refused (follows-starved joins self.patience line _ _ before after c.loop-line.answers.items _ _ _ _ next kept.run made)

pub returns-in_err-push-clause-run : goal.returns-in_err-push-clause-run
returns-in_err-push-clause-run g c =
    let joins = cached g.S.LockSpace in
    let kept = c.loop-line.invariant in
    let self = c.args.self.now in
    let line = c.line-item.result in
    let reply = c.in_ok-reply.field-0 in
    let before = session_of c.loop-line.self.runner in
    let after = session_of c.answer-reply.new.self.runner in
    let next = next-own self.who c.args.lines.now c.loop-line.line-index line line c.loop-line-test.true c.line-item.is (c.if-line-self.true ∙ kept.same) in
    let refused : c.from_residual-in_err-push.result ≡ Err _ = search rules in
    let made = subst (λ (n : ℕ). Runs joins (c.loop-line.space, c.loop-line.self.runner.cache) (making n line.statement before) (Ends reply after) (c.answer-reply.new.space, c.answer-reply.new.self.runner.cache)) kept.patience c.in_ok-reply.ensures.run in
    rw refused (follows-unkept joins self.patience line _ _ before after reply c.loop-line.answers.items _ _ _ _ next kept.run made)

pub loop-line-preserved : goal.loop-line-preserved
loop-line-preserved g c =
    let lock = g.S.LockSpace in
    let joins = cached g.S.LockSpace in
    let kept = c.loop-line.invariant in
    let self = c.args.self.now in
    let lines = c.args.lines.now in
    let line = c.line-item.result in
    let before = session_of c.loop-line.self.runner in
    let so-far = c.loop-line.answers.items in
    elim c.if-line-self.branch [
      | then-line-self+in_ok-reply+in_ok-push w ↦
          let reply = w.in_ok-reply.field-0 in
          let after = session_of w.answer-reply.new.self.runner in
          let next = next-own self.who lines c.loop-line.line-index line line c.loop-line-test.true c.line-item.is (w.if-line-self.true ∙ kept.same) in
          let made = subst (λ (n : ℕ). Runs joins (c.loop-line.space, c.loop-line.self.runner.cache) (making n line.statement before) (Ends reply after) (w.answer-reply.new.space, w.answer-reply.new.self.runner.cache)) kept.patience w.in_ok-reply.ensures.run in
          rw (w.self-is, w.space-is, w.answers-is, w.in_ok-push.ensures.items) (record {
            attends = w.answer-reply.ensures.attends;
            others = both-leave lock self.who _ _ _ kept.others
                (subst (λ (v : ℕ). LeavesOthers lock v c.loop-line.space w.answer-reply.new.space) kept.same w.answer-reply.ensures.others);
            who = w.answer-reply.ensures.who ∙ kept.same;
            idle = w.in_ok-reply.ensures.idle;
            same = w.answer-reply.ensures.same ∙ kept.same;
            patience = w.answer-reply.ensures.patience ∙ kept.patience;
            numbers = numbers-on line _ _ reply so-far _ next kept.numbers;
            run = follows-answered joins self.patience line _ _ before after reply so-far _ _ _ _ next kept.run made;
          })
      | else-line-self w ↦
          let next = next-other self.who lines c.loop-line.line-index line line c.loop-line-test.true c.line-item.is (λ own. w.if-line-self.false (own ∙ sym kept.same)) in
          rw (w.self-is, w.space-is, w.answers-is, ← next) (record {
            attends = kept.attends;
            others = kept.others;
            who = kept.who;
            idle = kept.idle;
            same = kept.same;
            patience = kept.patience;
            numbers = kept.numbers;
            run = kept.run;
          })
    ]

pub returns-clause-run : goal.returns-clause-run
returns-clause-run g c =
    let self = c.args.self.now in
    let lines = c.args.lines.now in
    let over : c.loop-line.line-index ≡ length lines = omega (arith, c.loop-line-test.false) in
    let none = ap (λ (i : ℕ). lines_of_session self.who (drop i lines)) over ∙ ap (λ (left : List Line). lines_of_session self.who left) (drop-length lines) in
    follows-all (cached g.S.LockSpace) self.patience (lines_of_session self.who (drop c.loop-line.line-index lines)) (session_of c.loop-line.self.runner) c.loop-line.answers.items _ _ _
    none c.loop-line.invariant.run

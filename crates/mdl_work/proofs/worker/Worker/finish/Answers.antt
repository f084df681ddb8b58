-- Each time that the statement goes further leaves one wait fewer.
use Rattle.std.proofs.Common.{◌≡◌, ◌-◌, ◌+◌, ℕ, zero, suc, Err, rules, sym, ◌∙◌, subst, arith}
use Rattle.mdl_calls.specs.Words.{Runs}
use Rattle.mdl_context.specs.Contexts.{LeavesOthers}
use Rattle.mdl_context.proofs.OthersLemmas.{both-leave}
use Rattle.mdl_stmt.specs.declared.progress.Progress.{Progress}
use Rattle.mdl_rows.specs.Endings.{Ends, Faults}
use Rattle.mdl_stmt.specs.Attendance.{cached}
use Rattle.mdl_stmt.specs.Gets.{paused}
use Rattle.mdl_stmt.specs.Stages.{session_of}
use Rattle.mdl_work.specs.Works.{finishing, going_further, most_waits}
use Rattle.mdl_work.proofs.WorkLemmas.{goes-further, is-cut-off, stays-ended, stays-starved}
use Rattle.mdl_work.proofs.worker.Worker.finish.Goals as goal

pub returns-in-Done-clause-run : goal.returns-in-Done-clause-run
returns-in-Done-clause-run g c =
    let joins = cached g.S.LockSpace in
    let patience = c.args.self.now.patience in
    let session = session_of c.loop-wait.self.runner in
    let end = Ends c.in-Done.reply session in
    c.loop-wait.invariant.run end _
    (subst (λ (p : Progress). Runs joins (c.loop-wait.space, c.loop-wait.self.runner.cache) (finishing patience (most_waits - c.loop-wait._wait) (paused p session)) end (c.loop-wait.space, c.loop-wait.self.runner.cache)) (sym c.in-Done.is)
    (stays-ended joins patience _ c.in-Done.reply session _))

pub returns-in_err-progress : goal.returns-in_err-progress
returns-in_err-progress g c =
    let lock = g.S.LockSpace in
    let joins = cached g.S.LockSpace in
    let kept = c.loop-wait.invariant in
    let patience = c.args.self.now.patience in
    let before = session_of c.loop-wait.self.runner in
    let after = session_of c.go_further.new.self.runner in
    let left = most_waits - (c.loop-wait._wait + 1) in
    let fewer : suc left ≡ most_waits - c.loop-wait._wait = omega (arith, c.loop-wait-test.true) in
    let refused : c.from_residual.result ≡ Err c.in_err-progress.field-0.0 = search rules in
    let further = subst (λ (n : ℕ). Runs joins (c.loop-wait.space, c.loop-wait.self.runner.cache) (going_further n before) (Faults after) (c.go_further.new.space, c.go_further.new.self.runner.cache)) kept.patience c.in_err-progress.ensures.run in
    record {
      run = rw refused (kept.run (Faults after) _
          (subst (λ (n : ℕ). Runs joins (c.loop-wait.space, c.loop-wait.self.runner.cache) (finishing patience n (paused c.loop-wait.progress before)) (Faults after) (c.go_further.new.space, c.go_further.new.self.runner.cache)) fewer
          (goes-further joins patience left c.loop-wait.progress before (Faults after) (Faults after) _ _ _ c.in_default.not-Done further (stays-starved joins patience left after _))));
      attends = c.go_further.ensures.attends;
      others = both-leave lock c.args.self.now.who _ _ _ kept.others
          (subst (λ (w : ℕ). LeavesOthers lock w c.loop-wait.space c.go_further.new.space) kept.same c.go_further.ensures.others);
      who = c.go_further.ensures.who ∙ kept.same;
      idle = rw refused tt;
      same = c.go_further.ensures.same ∙ kept.same;
      patience = c.go_further.ensures.patience ∙ kept.patience;
    }

pub loop-wait-preserved : goal.loop-wait-preserved
loop-wait-preserved g c =
    let lock = g.S.LockSpace in
    let joins = cached g.S.LockSpace in
    let kept = c.loop-wait.invariant in
    let patience = c.args.self.now.patience in
    let before = session_of c.loop-wait.self.runner in
    let after = session_of c.go_further.new.self.runner in
    let next = paused c.in_ok-progress.progress after in
    let left = most_waits - (c.loop-wait._wait + 1) in
    let fewer : suc left ≡ most_waits - c.loop-wait._wait = omega (arith, c.loop-wait-test.true) in
    let further = subst (λ (n : ℕ). Runs joins (c.loop-wait.space, c.loop-wait.self.runner.cache) (going_further n before) next (c.go_further.new.space, c.go_further.new.self.runner.cache)) kept.patience c.in_ok-progress.ensures.run in
    record {
      attends = c.go_further.ensures.attends;
      others = both-leave lock c.args.self.now.who _ _ _ kept.others
          (subst (λ (w : ℕ). LeavesOthers lock w c.loop-wait.space c.go_further.new.space) kept.same c.go_further.ensures.others);
      who = c.go_further.ensures.who ∙ kept.same;
      left = c.in_ok-progress.ensures.left;
      same = c.go_further.ensures.same ∙ kept.same;
      patience = c.go_further.ensures.patience ∙ kept.patience;
      run = λ end b rest. kept.run end b
          (subst (λ (n : ℕ). Runs joins (c.loop-wait.space, c.loop-wait.self.runner.cache) (finishing patience n (paused c.loop-wait.progress before)) end b) fewer
          (goes-further joins patience left c.loop-wait.progress before next end _ _ b c.in_default.not-Done further rest));
    }

pub returns-in-Done-progress-clause-run : goal.returns-in-Done-progress-clause-run
returns-in-Done-progress-clause-run g c =
    let joins = cached g.S.LockSpace in
    let patience = c.args.self.now.patience in
    let session = session_of c.loop-wait.self.runner in
    let end = Ends c.in-Done-progress.reply session in
    c.loop-wait.invariant.run end _
    (subst (λ (p : Progress). Runs joins (c.loop-wait.space, c.loop-wait.self.runner.cache) (finishing patience (most_waits - c.loop-wait._wait) (paused p session)) end (c.loop-wait.space, c.loop-wait.self.runner.cache)) (sym c.in-Done-progress.is)
    (stays-ended joins patience _ c.in-Done-progress.reply session _))

pub returns : goal.returns
returns g c =
    let joins = cached g.S.LockSpace in
    let kept = c.loop-wait.invariant in
    let patience = c.args.self.now.patience in
    let session = session_of c.loop-wait.self.runner in
    let none : zero ≡ most_waits - c.loop-wait._wait = omega (arith, c.loop-wait-test.false) in
    record {
      run = kept.run (Faults session) _
          (subst (λ (n : ℕ). Runs joins (c.loop-wait.space, c.loop-wait.self.runner.cache) (finishing patience n (paused c.loop-wait.progress session)) (Faults session) (c.loop-wait.space, c.loop-wait.self.runner.cache)) none
          (is-cut-off joins patience c.loop-wait.progress session _ c.in_default-progress.not-Done));
      attends = kept.attends;
      others = kept.others;
      who = kept.who;
      idle = tt;
      same = kept.same;
      patience = kept.patience;
    }

-- To work off the lines that are left from here, behind the answers so far, is to work all off from the start.
use Rattle.std.proofs.Common.{◌≡◌, ◌++◌, None, drop, map}
use Rattle.mdl_defs.specs.Caches.{CacheView}
use Rattle.mdl_calls.specs.Words.{Runs}
use Rattle.mdl_context.specs.Contexts.{LeavesOthers}
use Rattle.mdl_syntax.specs.declared.script.Line.{Line}
use Rattle.mdl_stmt.specs.Attendance.{AttendsWith, cached}
use Rattle.mdl_stmt.specs.Stages.{session_of}
use Rattle.mdl_work.specs.Works.{Worked, lines_of_session, working}
use Rattle.mdl_work.proofs.WorkLemmas.{ahead}
use Rattle.mdl_work.proofs.worker.Worker.answer_lines.Given as goal

abbrev pub invariant-loop-line : goal.invariant-loop-line
invariant-loop-line g l =
    let session = l.fn.self.who in
    let rest = lines_of_session session (drop l.line-index l.lines) in
    let whole = lines_of_session session l.lines in
    record {
      attends : AttendsWith g.S.LockSpace l.space l.self.runner.context l.self.runner.cache;
      others : LeavesOthers g.S.LockSpace session l.fn.space l.space;
      who : l.self.runner.context.who ≡ session;
      idle : l.self.runner.work ≡ None;
      same : l.self.who ≡ session;
      patience : l.self.patience ≡ l.fn.self.patience;
      numbers : map (λ answer. answer.0) l.answers.items ++ map (λ (line : Line). line.number) rest ≡ map (λ (line : Line). line.number) whole;
      run : (worked : Worked) (b : g.row.S.Denot × CacheView) → Runs (cached g.S.LockSpace) (l.space, l.self.runner.cache) (working l.fn.self.patience rest (session_of l.self.runner)) worked b
          → Runs (cached g.S.LockSpace) (l.fn.space, l.fn.self.runner.cache) (working l.fn.self.patience whole (session_of l.fn.self.runner)) (ahead l.answers.items worked) b;
    }

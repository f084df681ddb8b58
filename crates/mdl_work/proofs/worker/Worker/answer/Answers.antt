-- The statement starts, and is then brought to its end.
use Rattle.std.proofs.Common.{◌≡◌, Err, rules}
use Rattle.mdl_calls.proofs.FaithfulLemmas.{each_reply}
use Rattle.mdl_calls.proofs.RunLemmas.{runs_bind}
use Rattle.mdl_rows.specs.Endings.{Faults}
use Rattle.mdl_stmt.specs.Attendance.{cached}
use Rattle.mdl_stmt.specs.Gets.{paused}
use Rattle.mdl_rows.specs.Playing.{starting}
use Rattle.mdl_stmt.specs.Stages.{session_of}
use Rattle.mdl_work.specs.Paces.{LeftWhileWaiting}
use Rattle.mdl_work.specs.Works.{finishing, most_waits}
use Rattle.mdl_work.proofs.PauseLemmas.{left_starting}
use Rattle.mdl_work.proofs.WorkLemmas.{stays-starved}
use Rattle.mdl_work.proofs.worker.Worker.answer.Goals as goal

pub returns-in_err-progress-clause-run : goal.returns-in_err-progress-clause-run
returns-in_err-progress-clause-run g c =
    let joins = cached g.S.LockSpace in
    let self = c.args.self.now in
    let after = session_of c.start.new.self in
    let refused : c.from_residual.result ≡ Err c.in_err-progress.field-0.0 = search rules in
    rw refused (runs_bind joins (starting c.args.statement.now (session_of self.runner)) (finishing self.patience most_waits) _ _ _ (Faults after) (Faults after)
    c.in_err-progress.ensures.reads (stays-starved joins self.patience most_waits after _))

pub finish-requires-clause-left : goal.finish-requires-clause-left
finish-requires-clause-left g c =
    let session = session_of c.args.self.now.runner in
    let pause = paused c.in_ok-progress.progress (session_of c.start.new.self) in
    each_reply g.S.LockSpace.joins LeftWhileWaiting (starting c.args.statement.now session) _ _ pause (left_starting c.args.statement.now session) c.in_ok-progress.ensures.run

pub returns-clause-run : goal.returns-clause-run
returns-clause-run g c =
    let self = c.args.self.now in
    runs_bind (cached g.S.LockSpace) (starting c.args.statement.now (session_of self.runner)) (finishing self.patience most_waits) _ _ _
    (paused c.in_ok-progress.progress (session_of c.start.new.self)) _ c.in_ok-progress.ensures.reads c.finish.ensures.run

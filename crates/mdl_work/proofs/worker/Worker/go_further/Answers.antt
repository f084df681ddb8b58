-- The wait is waited out, and then the statement goes on.
use Rattle.std.proofs.Common.{ℕ, sym, subst}
use Rattle.mdl_calls.specs.Words.{Runs}
use Rattle.mdl_calls.proofs.CachedRuns.{run-cached}
use Rattle.mdl_calls.proofs.FaithfulLemmas.{each_reply}
use Rattle.mdl_calls.proofs.RunLemmas.{runs_bind}
use Rattle.mdl_context.specs.Contexts.{LeavesOthers}
use Rattle.mdl_context.proofs.OthersLemmas.{both-leave, leaves}
use Rattle.mdl_rows.specs.Playing.{going_on}
use Rattle.mdl_stmt.specs.Attendance.{cached}
use Rattle.mdl_stmt.specs.Stages.{session_of}
use Rattle.mdl_work.specs.Paces.{LeftWhileWaiting}
use Rattle.mdl_work.specs.Works.{waiting_out}
use Rattle.mdl_work.proofs.PauseLemmas.{left_going_on}
use Rattle.mdl_work.proofs.WorkLemmas.{attends-waited, attends-with, for_waiting_out, unread_waiting_out}
use Rattle.mdl_work.proofs.worker.Worker.go_further.Goals as goal

pub go_on-requires-clause-attends : goal.go_on-requires-clause-attends
go_on-requires-clause-attends g c =
    let laws = g.met.S.LockSpace.laws in
    let self = c.args.self.now in
    let context = self.runner.context in
    let waited = subst (λ (w : ℕ). Runs g.S.LockSpace.joins c.args.space.now (waiting_out w self.patience) tt c.wait_out.new.space) (sym c.requires.who) c.wait_out.ensures in
    let left = leaves g.S.LockSpace laws context.who (waiting_out context.who self.patience) _ _ tt (for_waiting_out context.who self.patience) waited in
    attends-with g.S.LockSpace context self.runner.cache _ _
    (attends-waited g.S.LockSpace laws self.patience context _ _ c.requires.attends.attends waited) left.1 c.requires.attends

pub returns-clause-run : goal.returns-clause-run
returns-clause-run g c =
    let joins = g.S.LockSpace.joins in
    let self = c.args.self.now in
    let program = waiting_out self.runner.context.who self.patience in
    let waited = subst (λ (w : ℕ). Runs joins c.args.space.now (waiting_out w self.patience) tt c.wait_out.new.space) (sym c.requires.who) c.wait_out.ensures in
    runs_bind (cached g.S.LockSpace) program (λ _. going_on (session_of self.runner)) (c.args.space.now, self.runner.cache) (c.wait_out.new.space, self.runner.cache) _ tt _
    (run-cached joins g.S.LockSpace.uses_cache program self.runner.cache _ _ tt (unread_waiting_out self.runner.context.who self.patience) waited) c.go_on.ensures.reads

pub returns-clause-others : goal.returns-clause-others
returns-clause-others g c =
    let laws = g.met.S.LockSpace.laws in
    let lock = g.S.LockSpace in
    let self = c.args.self.now in
    both-leave lock self.who _ _ _
    (leaves g.S.LockSpace laws self.who (waiting_out self.who self.patience) _ _ tt (for_waiting_out self.who self.patience) c.wait_out.ensures)
    (subst (λ (w : ℕ). LeavesOthers lock w c.wait_out.new.space c.go_on.new.space) c.requires.who c.go_on.ensures.others)

pub returns-clause-left : goal.returns-clause-left
returns-clause-left g c =
    let session = session_of c.args.self.now.runner in
    each_reply g.S.LockSpace.joins LeftWhileWaiting (going_on session) _ _ _ (left_going_on session) c.go_on.ensures.run

-- The lines are worked off, and then all is given up. That leaves no pin.
use Rattle.std.proofs.Common.{◌≡◌, [], Err, inl, refl, rules}
use Rattle.mdl_rows.specs.Leavings.{leaving}
use Rattle.mdl_stmt.specs.Attendance.{cached}
use Rattle.mdl_stmt.specs.Stages.{session_of}
use Rattle.mdl_stmt.proofs.CachedLemmas.{none_leaving}
use Rattle.mdl_calls.proofs.CachedRuns.{run-cached, run-plain}
use Rattle.mdl_work.specs.Paces.{answers_in}
use Rattle.mdl_work.specs.Works.{lines_of_session, newcomer, working_off}
use Rattle.mdl_work.proofs.WorkLemmas.{answers-told, worked-off}
use Rattle.mdl_work.proofs.WorkPins.{work-leaves-no-pin}
use Rattle.mdl_work.proofs.working.work_lines.Goals as goal

pub returns-in_err-worker-clause-reads : goal.returns-in_err-worker-clause-reads
returns-in_err-worker-clause-reads g c =
    let refused : c.from_residual.result ≡ Err _ = search rules in
    rw refused (record { kept = []; capacity = c.args.cache }, inl (refl, refl))

pub returns-clause-reads : goal.returns-clause-reads
returns-clause-reads g c =
    let new = c.in_ok-worker.ensures in
    let members = g.S.LockSpace in
    let after = c.answer_lines-answers.new.self.runner in
    let run = rw (new.session, new.who, new.patience, new.cache) at c.answer_lines-answers.ensures.run in
    let left = run-cached members.joins members.uses_cache (leaving (session_of after)) after.cache _ _ tt (none_leaving (session_of after)) c.leave.ensures.run in
    (after.cache, worked-off (cached members) c.args.patience (lines_of_session c.args.who c.args.lines.now) (newcomer c.args.who) (session_of after) c.answer_lines-answers.result _ _ _ run left)

pub returns-clause-answered : goal.returns-clause-answered
returns-clause-answered g c =
    let members = g.S.LockSpace in
    let program = working_off c.args.patience (lines_of_session c.args.who c.args.lines.now) (newcomer c.args.who) in
    let whole = returns-clause-reads g c in
    (answers-told members.joins program c.answer_lines-answers.result c.args.space.now c.leave.new.space
    (run-plain members.joins members.uses_cache program (c.args.space.now, record { kept = []; capacity = c.args.cache }) (c.leave.new.space, whole.0) _ whole.1)).0

pub returns-clause-starved : goal.returns-clause-starved
returns-clause-starved g c =
    let members = g.S.LockSpace in
    let program = working_off c.args.patience (lines_of_session c.args.who c.args.lines.now) (newcomer c.args.who) in
    let whole = returns-clause-reads g c in
    (answers-told members.joins program c.answer_lines-answers.result c.args.space.now c.leave.new.space
    (run-plain members.joins members.uses_cache program (c.args.space.now, record { kept = []; capacity = c.args.cache }) (c.leave.new.space, whole.0) _ whole.1)).1

pub returns-in_err-worker-clause-pins : goal.returns-in_err-worker-clause-pins
returns-in_err-worker-clause-pins g c = λ nothing. nothing

pub returns-clause-pins : goal.returns-clause-pins
returns-clause-pins g c = λ nothing.
    let members = g.S.LockSpace in
    let lines = lines_of_session c.args.who c.args.lines.now in
    let answers = answers_in c.answer_lines-answers.result in
    let whole = returns-clause-reads g c in
    let run = run-plain members.joins members.uses_cache (working_off c.args.patience lines (newcomer c.args.who)) (c.args.space.now, record { kept = []; capacity = c.args.cache })
    (c.leave.new.space, whole.0) answers whole.1 in
    (work-leaves-no-pin members g.met.S.LockSpace.laws c.args.who c.args.patience lines answers c.args.space.now c.leave.new.space c.requires.speaks c.requires.nothing nothing run).1

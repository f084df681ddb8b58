-- The session's statement comes as far as its definition says.
use Rattle.std.proofs.Common.{◌≡◌, ◌++◌, List, false, subst}
use Rattle.std.proofs.lemmas.Result.{on_ok_weaker}
use Rattle.mdl_rows.proofs.RowOutcomes.{sure_rows}
use Rattle.mdl_rows.specs.Playing.{starting}
use Rattle.mdl_stmt.specs.Stages.{session_of}
use Rattle.mdl_script.specs.declared.told.Told.{Told}
use Rattle.mdl_script.proofs.StepLemmas.{attends-at, left-at, none-left, seated-after, told-at, work-at}
use Rattle.mdl_script.proofs.play.Play.begin.Goals as goal

pub start-requires-clause-attends : goal.start-requires-clause-attends
start-requires-clause-attends c =
    (attends-at c.args.self.now c.args.line.now.session c.from.result c.index_mut-player.result.now _ c.requires.manned c.requires.session c.from.ensures c.index_mut-player.ensures.value).1

pub start-requires-clause-idle : goal.start-requires-clause-idle
start-requires-clause-idle c =
    none-left _ (work-at c.args.self.now c.args.line.now.session c.from.result c.index_mut-player.result.now _ c.requires.manned c.requires.session c.from.ensures c.index_mut-player.ensures.value false c.requires.idle)

pub returns-clause-told : goal.returns-clause-told
returns-clause-told c =
    let told = told-at c.args.self.now c.args.line.now.session c.from.result c.index_mut-player.result.now _ c.requires.manned c.requires.session c.from.ensures c.index_mut-player.ensures.value
    c.start.new.space c.args.line.now.number c.start.new.self c.in_ok-progress.progress (λ session. starting c.args.line.now.statement session) (λ session. (sure_rows session).1 c.args.line.now.statement) c.in_ok-progress.ensures.run in
    on_ok_weaker c.tell_progress.result
    (λ tells. subst (λ (ts : List Told). c.tell_progress.new.told.items ≡ c.args.told.now.items ++ ts) told tells)
    (c.tell_progress.ensures (session_of c.start.new.self))

pub returns-clause-left : goal.returns-clause-left
returns-clause-left c =
    let left = left-at c.args.self.now c.args.line.now.session c.from.result c.index_mut-player.result.now _ c.requires.manned c.requires.session c.from.ensures c.index_mut-player.ensures.value
    c.start.new.space c.args.line.now.number c.start.new.self c.in_ok-progress.progress (λ session. starting c.args.line.now.statement session) (λ session. (sure_rows session).1 c.args.line.now.statement) c.in_ok-progress.ensures.run in
    on_ok_weaker c.tell_progress.result (λ _. left) (c.tell_progress.ensures (session_of c.start.new.self))

pub returns-clause-seated : goal.returns-clause-seated
returns-clause-seated c =
    let seated = seated-after c.args.self.now c.args.line.now.session c.from.result c.index_mut-player.result.now _ c.requires.manned c.requires.session c.from.ensures c.index_mut-player.ensures.value
    c.start.new.space c.args.line.now.number c.start.new.self c.in_ok-progress.ensures.who c.in_ok-progress.ensures.attends c.in_ok-progress.ensures.others in
    on_ok_weaker c.tell_progress.result (λ _. seated) (c.tell_progress.ensures (session_of c.start.new.self))

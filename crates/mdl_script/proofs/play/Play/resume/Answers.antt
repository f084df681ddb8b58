-- The session's statement comes as far as its definition says.
use Rattle.std.proofs.Common.{◌≡◌, ◌++◌, List, subst, true}
use Rattle.std.proofs.lemmas.Result.{on_ok_weaker}
use Rattle.mdl_stmt.specs.Stages.{session_of}
use Rattle.mdl_script.specs.declared.told.Told.{Told}
use Rattle.mdl_script.proofs.StepLemmas.{attends-at, left-going, seated-after, told-going, work-at}
use Rattle.mdl_script.proofs.play.Play.resume.Goals as goal

pub go_on-requires : goal.go_on-requires
go_on-requires c = record {
  attends = (attends-at c.args.self.now c.args.who c.from.result c.index_mut-player.result.now _ c.requires.manned c.requires.session c.from.ensures c.index_mut-player.ensures.value).1;
  waits = work-at c.args.self.now c.args.who c.from.result c.index_mut-player.result.now _ c.requires.manned c.requires.session c.from.ensures c.index_mut-player.ensures.value true c.requires.waits;
}

pub returns-clause-told : goal.returns-clause-told
returns-clause-told c =
    let told = told-going c.args.self.now c.args.who c.from.result c.index_mut-player.result.now _ c.requires.manned c.requires.session c.from.ensures c.index_mut-player.ensures.value
    c.go_on.new.space c.go_on.new.self c.in_ok-progress.progress c.in_ok-progress.ensures.run in
    on_ok_weaker c.tell_progress.result
    (λ tells. subst (λ (ts : List Told). c.tell_progress.new.told.items ≡ c.args.told.now.items ++ ts) told tells)
    (c.tell_progress.ensures (session_of c.go_on.new.self))

pub returns-clause-left : goal.returns-clause-left
returns-clause-left c =
    let left = left-going c.args.self.now c.args.who c.from.result c.index_mut-player.result.now _ c.requires.manned c.requires.session c.from.ensures c.index_mut-player.ensures.value
    c.go_on.new.space c.go_on.new.self c.in_ok-progress.progress c.in_ok-progress.ensures.run in
    on_ok_weaker c.tell_progress.result (λ _. left) (c.tell_progress.ensures (session_of c.go_on.new.self))

pub returns-clause-seated : goal.returns-clause-seated
returns-clause-seated c =
    let seated = seated-after c.args.self.now c.args.who c.from.result c.index_mut-player.result.now _ c.requires.manned c.requires.session c.from.ensures c.index_mut-player.ensures.value
    c.go_on.new.space c.index_mut-player.result.now.line c.go_on.new.self c.in_ok-progress.ensures.who c.in_ok-progress.ensures.attends c.in_ok-progress.ensures.others in
    on_ok_weaker c.tell_progress.result (λ _. seated) (c.tell_progress.ensures (session_of c.go_on.new.self))

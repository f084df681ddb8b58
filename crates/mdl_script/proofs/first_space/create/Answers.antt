-- The space speaks for all sessions after each call.
use Rattle.std.proofs.Common.{arith}
use Rattle.mdl_key.specs.declared.mode.Mode.TheVariants.{X}
use Rattle.mdl_defs.specs.declared.change.Change.TheVariants.{Create}
use Rattle.mdl_defs.specs.declared.definition.Definition.TheVariants.{Schema}
use Rattle.mdl_calls.specs.Words.{Resolve, Try_now, Change_definition, Release, Unpin, placed, attempted, redefined, done}
use Rattle.mdl_script.proofs.PlayLemmas.{SpeakForAll, still-speaks}
use Rattle.mdl_script.proofs.first_space.create.Goals as goal

resolved : (c : goal.After-try_now-arg-1) → SpeakForAll c.resolve.new.self
resolved c = still-speaks c.args.space.now c.resolve.new.self (Resolve 1 c.args.schema.now) (placed c.resolve.result) c.requires c.resolve.ensures

pub try_now-requires : goal.try_now-requires
try_now-requires c = resolved c 1 (omega arith) (omega arith)

pub change_definition-requires : goal.change_definition-requires
change_definition-requires c =
    let before = still-speaks c.args.space.now c.resolve.new.self (Resolve 1 c.args.schema.now) (placed c.resolve.result) c.requires c.resolve.ensures in
    still-speaks c.resolve.new.self c.try_now.new.self (Try_now 1 c.in-Ok.place X) (attempted c.try_now.result) before c.try_now.ensures 1 (omega arith) (omega arith)

pub release-requires : goal.release-requires
release-requires c =
    let before = still-speaks c.args.space.now c.resolve.new.self (Resolve 1 c.args.schema.now) (placed c.resolve.result) c.requires c.resolve.ensures in
    let then_ = still-speaks c.resolve.new.self c.try_now.new.self (Try_now 1 c.in-Ok.place X) (attempted c.try_now.result) before c.try_now.ensures in
    still-speaks c.try_now.new.self c.change_definition.new.self (Change_definition 1 c.in-Ok-Granted.id (Create Schema)) (redefined c.change_definition.result) then_ c.change_definition.ensures 1 (omega arith) (omega arith)

pub unpin-requires : goal.unpin-requires
unpin-requires c =
    let before = still-speaks c.args.space.now c.resolve.new.self (Resolve 1 c.args.schema.now) (placed c.resolve.result) c.requires c.resolve.ensures in
    let then_ = still-speaks c.resolve.new.self c.try_now.new.self (Try_now 1 c.in-Ok.place X) (attempted c.try_now.result) before c.try_now.ensures in
    let changed = still-speaks c.try_now.new.self c.change_definition.new.self (Change_definition 1 c.in-Ok-Granted.id (Create Schema)) (redefined c.change_definition.result) then_ c.change_definition.ensures in
    still-speaks c.change_definition.new.self c.release.new.self (Release 1 c.in-Ok-Granted.id) (done c.release.result) changed c.release.ensures 1 (omega arith) (omega arith)

pub returns-clause-speaks : goal.returns-clause-speaks
returns-clause-speaks c =
    let before = still-speaks c.args.space.now c.resolve.new.self (Resolve 1 c.args.schema.now) (placed c.resolve.result) c.requires c.resolve.ensures in
    let then_ = still-speaks c.resolve.new.self c.try_now.new.self (Try_now 1 c.in-Ok.place X) (attempted c.try_now.result) before c.try_now.ensures in
    let changed = still-speaks c.try_now.new.self c.change_definition.new.self (Change_definition 1 c.in-Ok-Granted.id (Create Schema)) (redefined c.change_definition.result) then_ c.change_definition.ensures in
    let released = still-speaks c.change_definition.new.self c.release.new.self (Release 1 c.in-Ok-Granted.id) (done c.release.result) changed c.release.ensures in
    still-speaks c.release.new.self c.unpin.new.self (Unpin 1 c.in-Ok.place) (done c.unpin.result) released c.unpin.ensures

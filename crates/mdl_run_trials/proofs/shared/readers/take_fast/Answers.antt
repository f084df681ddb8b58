-- A try for a fast ticket reads nothing.
use Rattle.mdl_key.specs.declared.mode.Mode.TheVariants.{SR}
use Rattle.mdl_run_trials.proofs.shared.MetAfter.{met-same, try-same}
use Rattle.mdl_run_trials.proofs.shared.readers.take_fast.Goals as goal

pub returns : goal.returns
returns g c =
    let a = c.args.session.now in
    let b = c.try_fast.new.self in
    let tried = c.try_fast.ensures in
    record { met = met-same a b c.args._cache.now.kept (try-same c.args.place SR c.try_fast.result a b tried.tried tried.refused) c.requires.met }

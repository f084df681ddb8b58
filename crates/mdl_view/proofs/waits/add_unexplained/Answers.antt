-- The sample says of each request what the lock says.
use Rattle.std.proofs.Common.{◌∙◌, ◌++◌, map, filter, ap}
use Rattle.std.proofs.lemmas.Result.{IfOk-equal}
use Rattle.mdl_view.specs.Blockings.{at_lock, is_unexplained}
use Rattle.mdl_view.proofs.SampleLemmas.{filter_same, same_unexplained}
use Rattle.mdl_view.proofs.waits.add_unexplained.Goals as goal

pub returns : goal.returns
returns c =
    let lock = c.args.lock.now in
    let few = c.in_ok-few.few in
    let same = filter_same (is_unexplained few) (is_unexplained lock) (same_unexplained lock few c.in_ok-few.ensures) in
    IfOk-equal c.add_unexplained_by.result _ _ _ c.add_unexplained_by.ensures
    (ap (λ waiting. c.args.found.now.items ++ map (at_lock c.args.place) (filter (is_unexplained few) waiting)) c.waiting.ensures
    ∙ ap (λ asks. c.args.found.now.items ++ map (at_lock c.args.place) asks) (same lock.waiting))

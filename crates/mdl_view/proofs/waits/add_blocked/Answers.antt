-- The sample says of each request what the lock says.
use Rattle.std.proofs.Common.{◌∙◌, ◌++◌, map, filter, ap}
use Rattle.std.proofs.lemmas.Result.{IfOk-equal}
use Rattle.mdl_view.specs.Blockings.{at_lock, is_blocked}
use Rattle.mdl_view.proofs.SampleLemmas.{filter_same, same_blocked}
use Rattle.mdl_view.proofs.waits.add_blocked.Goals as goal

pub returns : goal.returns
returns c =
    let lock = c.args.lock.now in
    let few = c.in_ok-few.few in
    let same = filter_same (is_blocked few) (is_blocked lock) (same_blocked lock few c.in_ok-few.ensures) in
    IfOk-equal c.add_blocked_by.result _ _ _ c.add_blocked_by.ensures
    (ap (λ waiting. c.args.found.now.items ++ map (at_lock c.args.place) (filter (is_blocked few) waiting)) c.waiting.ensures
    ∙ ap (λ asks. c.args.found.now.items ++ map (at_lock c.args.place) asks) (same lock.waiting))

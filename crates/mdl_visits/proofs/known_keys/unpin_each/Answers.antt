-- One mark more is no pin any more.
use Rattle.std.proofs.Common.{arith, get_or}
use Rattle.std.proofs.lemmas.List.Edits.{map_over_more}
use Rattle.mdl_visits.proofs.KeyLists.{own_mark}
use Rattle.mdl_visits.specs.OwnKeys.{no_mark, unpinned}
use Rattle.mdl_visits.proofs.known_keys.unpin_each.Goals as goal

pub loop-mark-preserved : goal.loop-mark-preserved
loop-mark-preserved c =
    let i = c.loop-mark.mark-index in
    map_over_more unpinned c.args.marks.now c.loop-mark.marks i (get_or c.loop-mark.marks i no_mark)
    (omega arith) c.loop-mark.invariant (own_mark c.loop-mark.marks i no_mark (omega arith))

-- One way after the other.
use Rattle.mdl_view.specs.SessionSets.{has}
use Rattle.mdl_view.proofs.JointLemmas.{helped_more}
use Rattle.mdl_view.proofs.joint.helped_by_all.Goals as goal

pub loop-way-preserved : goal.loop-way-preserved
loop-way-preserved c =
    let known = c.in_ok-helped.ensures.ended in
    helped_more c.args.locks.now c.args.ways.now c.loop-way.way-index _ (has c.loop-way.all) (has c.in_ok-helped.helped) (has c.insert_set.new.self) known.0
    c.loop-way-test.true known.1 known.2 c.in_ok-insert_set.ensures c.loop-way.invariant

-- By its lemma.
use Rattle.mdl_work.proofs.WorkPins.{work-leaves-no-pin}
use Rattle.mdl_work.proofs.pins.work_leaves_no_pin.Goals as goal

pub returns : goal.returns
returns g c =
    let laws = g.met.S.LockSpace.laws in
    work-leaves-no-pin g.S.LockSpace laws

-- By its lemma.
use Rattle.mdl_rows.proofs.LeaverPins.{leavers-pin-nothing}
use Rattle.mdl_rows.proofs.pins.leavers_pin_nothing.Goals as goal

pub returns : goal.returns
returns g c =
    let laws = g.met.S.LockSpace.laws in
    leavers-pin-nothing g.S.LockSpace laws

-- By its lemma.
use Rattle.mdl_rows.proofs.RowPins.{leave-no-pin}
use Rattle.mdl_rows.proofs.pins.statements_leave_no_pin.Goals as goal

pub returns : goal.returns
returns g c =
    let laws = g.met.S.LockSpace.laws in
    leave-no-pin g.S.LockSpace laws

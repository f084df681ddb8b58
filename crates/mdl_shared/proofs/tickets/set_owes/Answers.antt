-- The flag of the place is this one.
use Rattle.std.proofs.Common.{◌<◌, length, arith}
use Rattle.mdl_shared.proofs.OwedFlags.{flag_set}
use Rattle.mdl_shared.proofs.tickets.set_owes.Goals as goal

pub returns-then-place-len-clause-owes : goal.returns-then-place-len-clause-owes
returns-then-place-len-clause-owes c =
    let ps = c.args.places.now.items in
    let inside : c.args.place < length ps = omega (arith, c.len.ensures, c.if-place-len.true) in
    flag_set ps c.args.place _ inside

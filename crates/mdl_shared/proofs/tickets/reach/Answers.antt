-- Flags that are added are down.
use Rattle.std.proofs.Common.{arith, is_ok}
use Rattle.mdl_shared.proofs.OwedFlags.{flags_more}
use Rattle.mdl_shared.proofs.tickets.reach.Goals as goal

pub returns-clause-owes : goal.returns-clause-owes
returns-clause-owes c =
    flags_more c.args.places.now.items c.resize.new.self.items c.args.count _ (is_ok c.resize.result) (omega (arith, c.len.ensures, c.if-count-len.false)) c.resize.ensures.items

-- A held ticket's place has a key.
use Rattle.std.proofs.Common.{◌≡◌, ap}
use Rattle.mdl_core.specs.Cores.{Core, seat_at}
use Rattle.mdl_space.proofs.ServingLemmas.{seat_here}
use Rattle.mdl_space.proofs.SpeakingLemmas.{held-stands}
use Rattle.mdl_space.proofs.core_space.CoreSpace.read_definition.Goals as goal

pub read_at-requires : goal.read_at-requires
read_at-requires c =
    let core : Core = c.args.self.now in
    let seat : c.index.result.now ≡ seat_at c.args.who core =
    seat_here core _ c.args.who c.from.result c.index.result.now (ap (λ (k : Core). k.seats) c.self.view_is) c.requires.0 c.from.ensures c.index.ensures in
    (held-stands core c.args.who c.args.id c.requires c.index.result.now c.ticket.result c.in-Some.ticket seat c.ticket.ensures c.in-Some.is).0

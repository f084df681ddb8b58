-- Each index has a key.
use Rattle.std.proofs.Common.{arith}
use Rattle.indexmap.specs.IndexMap.{keys}
use Rattle.mdl_context.proofs.KnownLemmas.{places-counted}
use Rattle.mdl_context.proofs.known.Known.len.Goals as goal

pub returns : goal.returns
returns c =
    let counted = places-counted (keys c.self.inside.met) c.self.inside.order.items c.self.invariant.indexes in
    rw (← c.self.view_is) (omega (arith, c.len.ensures, c.self.inside.order.ok, counted))

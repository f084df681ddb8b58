-- The place by an index is that of the known key.
use Rattle.std.proofs.Common.{◌≡◌, ◌∙◌, ◌<◌, Some, ap, arith, length, slice_get, sym}
use Rattle.std.proofs.lemmas.Option.{slice_get-get_or}
use Rattle.indexmap.specs.IndexMap.{keys}
use Rattle.mdl_context.specs.declared.known.KnownPlace.{KnownPlace}
use Rattle.mdl_context.proofs.KnownLemmas.{place-listed, places-counted}
use Rattle.mdl_context.proofs.known.Known.place.Goals as goal

pub index-requires : goal.index-requires
index-requires c =
    let counted = places-counted (keys c.self.inside.met) c.self.inside.order.items c.self.invariant.indexes in
    let inside : c.args.index < length c.self.inside.order.items = rw counted at (rw (← c.self.view_is) at c.requires) in
    omega (arith, inside, c.self.inside.order.ok)

pub returns : goal.returns
returns c =
    let counted = places-counted (keys c.self.inside.met) c.self.inside.order.items c.self.invariant.indexes in
    let inside : c.args.index < length c.self.inside.order.items = rw counted at (rw (← c.self.view_is) at c.requires) in
    let here : slice_get c.self.inside.order.items c.args.index ≡ Some c.index.result.now =
    slice_get-get_or c.self.inside.order.items c.args.index c.index.result.now inside ∙ ap (λ (k : KnownPlace). Some k) (sym c.index.ensures) in
    rw (← c.self.view_is) (place-listed (keys c.self.inside.met) c.self.inside.order.items c.args.index c.index.result.now c.self.invariant.indexes here)

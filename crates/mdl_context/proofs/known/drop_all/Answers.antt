-- One known key more has no place any more.
use Rattle.std.proofs.Common.{◌≡◌, ◌∙◌, List, Some, false, ap, get_or, refl, slice_get}
use Rattle.indexmap.specs.IndexMap.{keys}
use Rattle.mdl_key.specs.Keys.{KeyName}
use Rattle.mdl_context.proofs.KnownLemmas.{at-index, drop-next, no-known, own-item}
use Rattle.mdl_context.proofs.known.drop_all.Goals as goal

pub loop-gone-preserved : goal.loop-gone-preserved
loop-gone-preserved c =
    let met = c.args.met.now in
    let order = c.args.order.now in
    let i = c.loop-gone.gone-index in
    let k = get_or order i no-known in
    let inside = c.loop-gone-test.true in
    let there = at-index (keys met) k.key (c.requires i no-known inside) in
    let here : slice_get (keys c.loop-gone.met) k.key ≡ Some there.0 = ap (λ (ks : List KeyName). slice_get ks k.key) c.loop-gone.invariant.same ∙ there.1 in
    record {
      same = c.drop_place.ensures.keys ∙ c.loop-gone.invariant.same;
      places = drop-next (λ _. false) (keys met) order met.entries i k there.0 c.loop-gone.met.entries inside (own-item order i no-known inside) there.1
          c.loop-gone.invariant.places c.drop_place.new.met.entries refl (λ q. c.drop_place.ensures.place there.0 q here);
    }

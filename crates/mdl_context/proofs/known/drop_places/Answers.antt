-- One known key more was looked at.
use Rattle.std.proofs.Common.{◌≡◌, ◌∙◌, List, Some, false, true, ap, get_or, slice_get, sym}
use Rattle.indexmap.specs.IndexMap.{keys}
use Rattle.mdl_key.specs.Keys.{KeyName}
use Rattle.mdl_context.specs.Holdings.{needs_place}
use Rattle.mdl_context.proofs.KnownLemmas.{at-index, drop-next, keep-next, no-known, own-item}
use Rattle.mdl_context.proofs.known.drop_places.Goals as goal
use Rattle.mdl_context.proofs.known.drop_places.Goals.{then-not-needs, else-not-needs}

pub loop-known-preserved : goal.loop-known-preserved
loop-known-preserved c =
    let met = c.args.met.now in
    let order = c.args.order.now in
    let i = c.loop-known.known-index in
    let k = get_or order i no-known in
    let inside = c.loop-known-test.true in
    let own = own-item order i no-known inside in
    let there = at-index (keys met) k.key (c.requires i no-known inside) in
    let test = needs_place c.args.by_place.now c.args.wait in
    elim c.if-not-needs.branch [
      | then-not-needs w ↦
          let here : slice_get (keys c.loop-known.met) k.key ≡ Some there.0 = ap (λ (ks : List KeyName). slice_get ks k.key) c.loop-known.invariant.same ∙ there.1 in
          let goes : test k.place ≡ false = sym c.needs.ensures ∙ w.if-not-needs.true in
          let next = drop-next test (keys met) order met.entries i k there.0 c.loop-known.met.entries inside own there.1 c.loop-known.invariant.places w.drop_place.new.met.entries goes
          (λ q. w.drop_place.ensures.place there.0 q here) in
          rw w.met-is (record { same = w.drop_place.ensures.keys ∙ c.loop-known.invariant.same; places = next })
      | else-not-needs w ↦
          let stays : test k.place ≡ true = sym c.needs.ensures ∙ w.if-not-needs.false in
          let next = keep-next test (keys met) order met.entries i k there.0 c.loop-known.met.entries inside own there.1 c.loop-known.invariant.places stays in
          rw w.met-is (record { same = c.loop-known.invariant.same; places = next })
    ]

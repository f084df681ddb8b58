-- The places that aren't needed go from the map and from the order.
use Rattle.std.proofs.Common.{List, refl, subst, sym}
use Rattle.indexmap.specs.IndexMap.{keys}
use Rattle.mdl_context.specs.declared.known.KnownPlace.{KnownPlace}
use Rattle.mdl_context.specs.Holdings.{needs_place}
use Rattle.mdl_context.specs.KnownKeys.{AreKnownOnce, AreMet, known_keys}
use Rattle.mdl_context.proofs.KnownLemmas.{AreKept, kept-fewer, passing}
use Rattle.mdl_context.proofs.known.Known.forget_unneeded.Goals as goal

pub invariant_of-self : goal.invariant_of-self
invariant_of-self c =
    let known = known_keys (keys c.self.inside.met) c.self.inside.order.items in
    let test = needs_place c.args.by_place.now c.args.wait in
    let fewer = kept-fewer test c.self.inside.met.entries c.drop_places.new.met.entries c.self.inside.order.items known
    (refl, c.self.invariant.indexes, c.self.invariant.met, c.self.invariant.once) c.drop_places.ensures.keys (rw c.deref.ensures.value at c.drop_places.ensures.places) in
    let after : AreKept c.drop_places.new.met.entries c.keep_needed.new.order.items (passing test known) =
    subst (λ (places : List KnownPlace). AreKept c.drop_places.new.met.entries places (passing test known)) (sym c.keep_needed.ensures) fewer in
    record {
      indexes = after.1;
      met = subst (AreMet c.drop_places.new.met.entries) (sym after.0) after.2;
      once = subst AreKnownOnce (sym after.0) after.3;
    }

pub returns : goal.returns
returns c =
    let known = known_keys (keys c.self.inside.met) c.self.inside.order.items in
    let test = needs_place c.args.by_place.now c.args.wait in
    let fewer = kept-fewer test c.self.inside.met.entries c.drop_places.new.met.entries c.self.inside.order.items known
    (refl, c.self.invariant.indexes, c.self.invariant.met, c.self.invariant.once) c.drop_places.ensures.keys (rw c.deref.ensures.value at c.drop_places.ensures.places) in
    rw (← c.self.view_is, c.keep_needed.ensures) fewer.0

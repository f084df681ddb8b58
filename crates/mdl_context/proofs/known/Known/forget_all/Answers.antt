-- All places go from the map, and the order is emptied.
use Rattle.std.proofs.Common.{[], List, refl, subst, sym}
use Rattle.indexmap.specs.IndexMap.{keys}
use Rattle.mdl_context.specs.declared.known.KnownPlace.{KnownPlace}
use Rattle.mdl_context.specs.KnownKeys.{AreKnownOnce, AreMet, known_keys}
use Rattle.mdl_context.proofs.KnownLemmas.{AreKept, kept-none}
use Rattle.mdl_context.proofs.known.Known.forget_all.Goals as goal

pub invariant_of-self : goal.invariant_of-self
invariant_of-self c =
    let known = known_keys (keys c.self.inside.met) c.self.inside.order.items in
    let none = kept-none c.self.inside.met.entries c.drop_all.new.met.entries c.self.inside.order.items known
    (refl, c.self.invariant.indexes, c.self.invariant.met, c.self.invariant.once) c.drop_all.ensures.keys (rw c.deref.ensures.value at c.drop_all.ensures.places) in
    let after : AreKept c.drop_all.new.met.entries c.clear.new.self.items [] =
    subst (λ (places : List KnownPlace). AreKept c.drop_all.new.met.entries places []) (sym c.clear.ensures.items) none in
    record {
      indexes = after.1;
      met = subst (AreMet c.drop_all.new.met.entries) (sym after.0) after.2;
      once = subst AreKnownOnce (sym after.0) after.3;
    }

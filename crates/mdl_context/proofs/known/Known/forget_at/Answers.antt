-- The key at the place goes from the map and from the order. Only one is known there.
use Rattle.std.proofs.Common.{◌≡◌, ◌∙◌, List, Some, false, ap, arith, refl, slice_get, subst, sym}
use Rattle.std.specs.Prelude.{◌==◌, filter, not}
use Rattle.std.specs.List.{list_any}
use Rattle.std.proofs.lemmas.Option.{slice_get-get_or, slice_get_within}
use Rattle.indexmap.specs.IndexMap.{keys}
use Rattle.mdl_context.specs.declared.known.KnownPlace.{KnownPlace}
use Rattle.mdl_context.specs.KnownKeys.{AreKnownOnce, AreMet, known_keys}
use Rattle.mdl_context.specs.Spares.{HasOneKey}
use Rattle.mdl_context.proofs.KnownLemmas.{AreKept, Entry, kept-without, known-still-all, placed-at, spare-found, spare-missed}
use Rattle.mdl_context.proofs.known.Known.forget_at.Goals.{In_default}
use Rattle.mdl_context.proofs.known.Known.forget_at.Goals as goal

-- none is known there
missed : (c : In_default) → list_any (λ (k : KnownPlace). k.place == c.args.place) c.self.inside.order.items ≡ false
missed c = rw (← c.deref.ensures.value) c.in_default.ensures.none

pub returns-in_default-clause-known : goal.returns-in_default-clause-known
returns-in_default-clause-known c =
    let known = known_keys (keys c.self.inside.met) c.self.inside.order.items in
    rw (← c.self.view_is)
    (sym (known-still-all c.self.inside.met.entries c.self.inside.met.entries c.self.inside.order.items known
    (refl, c.self.invariant.indexes, c.self.invariant.met, c.self.invariant.once) c.args.place (missed c)))

pub returns-in_default-clause-spare : goal.returns-in_default-clause-spare
returns-in_default-clause-spare c =
    let known = known_keys (keys c.self.inside.met) c.self.inside.order.items in
    rw (← c.self.view_is)
    (spare-missed c.self.inside.met.entries c.self.inside.met.entries c.self.inside.order.items known
    (refl, c.self.invariant.indexes, c.self.invariant.met, c.self.invariant.once) c.args.place (missed c))

-- one is
pub remove-gone-requires : goal.remove-gone-requires
remove-gone-requires c =
    let there = placed-at c.self.inside.order.items c.in-Some.at c.args.place (rw c.deref.ensures.value at c.in-Some.ensures.found) in
    omega (arith, slice_get_within c.self.inside.order.items c.in-Some.at there.0 there.1, c.self.inside.order.ok)

one : (c : goal.After-drop_place) → HasOneKey c.args.place (known_keys (keys c.self.inside.met) c.self.inside.order.items)
one c = rw (← c.self.view_is) at c.requires

here : (c : goal.After-drop_place) → slice_get c.self.inside.order.items c.in-Some.at ≡ Some c.remove-gone.result
here c =
    let there = placed-at c.self.inside.order.items c.in-Some.at c.args.place (rw c.deref.ensures.value at c.in-Some.ensures.found) in
    slice_get-get_or c.self.inside.order.items c.in-Some.at _ (slice_get_within c.self.inside.order.items c.in-Some.at there.0 there.1)
    ∙ ap (λ (k : KnownPlace). Some k) (sym c.remove-gone.ensures.value)

at : (c : goal.After-drop_place) → c.remove-gone.result.place ≡ c.args.place
at c =
    let there = placed-at c.self.inside.order.items c.in-Some.at c.args.place (rw c.deref.ensures.value at c.in-Some.ensures.found) in
    let same : Some c.remove-gone.result ≡ Some there.0 = sym (here c) ∙ there.1 in
    let is : c.remove-gone.result ≡ there.0 = cc in
    ap (λ (k : KnownPlace). k.place) is ∙ there.2

after : (c : goal.After-drop_place)
    → AreKept c.drop_place.new.met.entries c.remove-gone.new.self.items
    (filter (λ (e : Entry). not (e.1 == c.args.place)) (known_keys (keys c.self.inside.met) c.self.inside.order.items))
after c =
    let known = known_keys (keys c.self.inside.met) c.self.inside.order.items in
    subst (λ (places : List KnownPlace). AreKept c.drop_place.new.met.entries places (filter (λ (e : Entry). not (e.1 == c.args.place)) known))
    (sym c.remove-gone.ensures.items)
    (kept-without c.self.inside.met.entries c.drop_place.new.met.entries c.self.inside.order.items known
    (refl, c.self.invariant.indexes, c.self.invariant.met, c.self.invariant.once) c.args.place (one c) c.in-Some.at c.remove-gone.result (here c) (at c)
    c.drop_place.ensures.keys c.drop_place.ensures.place)

pub invariant_of-self : goal.invariant_of-self
invariant_of-self c =
    let left = after c in
    record {
      indexes = left.1;
      met = subst (AreMet c.drop_place.new.met.entries) (sym left.0) left.2;
      once = subst AreKnownOnce (sym left.0) left.3;
    }

pub returns-clause-known : goal.returns-clause-known
returns-clause-known c = rw (← c.self.view_is) (after c).0

pub returns-clause-spare : goal.returns-clause-spare
returns-clause-spare c =
    let known = known_keys (keys c.self.inside.met) c.self.inside.order.items in
    rw (← c.self.view_is)
    (spare-found c.self.inside.met.entries c.drop_place.new.met.entries c.self.inside.order.items known
    (refl, c.self.invariant.indexes, c.self.invariant.met, c.self.invariant.once) c.args.place (one c) c.in-Some.at c.remove-gone.result (here c) (at c))

-- The new key becomes the last one.
use Rattle.std.proofs.Common.{◌≡◌, ◌++◌, ◌∷◌, [], List, None, Option, ℕ, refl, subst, sym}
use Rattle.indexmap.specs.IndexMap.{keys}
use Rattle.mdl_key.specs.Keys.{KeyName}
use Rattle.mdl_context.specs.declared.known.KnownPlace.{KnownPlace}
use Rattle.mdl_context.specs.Contexts.{place_known}
use Rattle.mdl_context.specs.KnownKeys.{AreKnownOnce, AreMet, known_keys}
use Rattle.mdl_context.proofs.KnownLemmas.{AreKept, kept-emptied, kept-more}
use Rattle.mdl_context.proofs.known.Known.add.Goals as goal

pub invariant_of-self-in_err-key : goal.invariant_of-self-in_err-key
invariant_of-self-in_err-key c =
    let known = known_keys (keys c.self.inside.met) c.self.inside.order.items in
    let order = c.reserve.new.self.items in
    let same : order ≡ c.self.inside.order.items = c.in_ok-reserve.ensures.items in
    let before : AreKept c.self.inside.met.entries order known =
    subst (λ (places : List KnownPlace). AreKept c.self.inside.met.entries places known) (sym same) (refl, c.self.invariant.indexes, c.self.invariant.met, c.self.invariant.once) in
    let emptied = kept-emptied c.self.inside.met.entries c.empty_if_many.new.met.entries order known before (rw c.deref.ensures.value at c.empty_if_many.ensures) in
    let after : AreKept c.meet.new.met.entries order known =
    subst (λ (entries : List (KeyName × Option ℕ)). AreKept entries order known) (sym c.in_err-key.ensures.refused) emptied in
    record {
      indexes = after.1;
      met = subst (AreMet c.meet.new.met.entries) (sym after.0) after.2;
      once = subst AreKnownOnce (sym after.0) after.3;
    }

after-push : (c : goal.After-push_reserved)
    → AreKept c.meet.new.met.entries c.push_reserved.new.self.items (known_keys (keys c.self.inside.met) c.self.inside.order.items ++ (c.args.key.now, c.args.place) ∷ [])
after-push c =
    let known = known_keys (keys c.self.inside.met) c.self.inside.order.items in
    let order = c.reserve.new.self.items in
    let same : order ≡ c.self.inside.order.items = c.in_ok-reserve.ensures.items in
    let before : AreKept c.self.inside.met.entries order known =
    subst (λ (places : List KnownPlace). AreKept c.self.inside.met.entries places known) (sym same) (refl, c.self.invariant.indexes, c.self.invariant.met, c.self.invariant.once) in
    let emptied = kept-emptied c.self.inside.met.entries c.empty_if_many.new.met.entries order known before (rw c.deref.ensures.value at c.empty_if_many.ensures) in
    let new : place_known c.args.key.now known ≡ None = rw (← c.self.view_is) at c.requires in
    let more = kept-more c.empty_if_many.new.met.entries c.meet.new.met.entries order known (record { key = c.in_ok-key.key; place = c.args.place }) c.args.key.now emptied new
    c.in_ok-key.ensures.index c.in_ok-key.ensures.keys c.in_ok-key.ensures.places in
    subst (λ (places : List KnownPlace). AreKept c.meet.new.met.entries places (known ++ (c.args.key.now, c.args.place) ∷ [])) (sym c.push_reserved.ensures.items) more

pub invariant_of-self-2 : goal.invariant_of-self-2
invariant_of-self-2 c =
    let after = after-push c in
    record {
      indexes = after.1;
      met = subst (AreMet c.meet.new.met.entries) (sym after.0) after.2;
      once = subst AreKnownOnce (sym after.0) after.3;
    }

pub returns-clause-done : goal.returns-clause-done
returns-clause-done c = rw (← c.self.view_is) (after-push c).0

-- The last key goes from the map and from the order.
use Rattle.std.proofs.Common.{◌≡◌, ◌∙◌, ◌++◌, ◌∷◌, [], List, ℕ, refl, subst, sym}
use Rattle.std.proofs.lemmas.List.{same_from_push}
use Rattle.indexmap.specs.IndexMap.{keys}
use Rattle.mdl_key.specs.Keys.{KeyName}
use Rattle.mdl_context.specs.declared.known.KnownPlace.{KnownPlace}
use Rattle.mdl_context.specs.KnownKeys.{AreKnownOnce, AreMet, known_keys}
use Rattle.mdl_context.proofs.KnownLemmas.{AreKept, kept-front, no-snoc}
use Rattle.mdl_context.proofs.known.Known.forget_last.Goals as goal

after-drop : (c : goal.After-drop_place)
    → (front : List (KeyName × ℕ)) × (e : KeyName × ℕ) × (known_keys (keys c.self.inside.met) c.self.inside.order.items ≡ front ++ e ∷ [])
    × AreKept c.drop_place.new.met.entries c.pop.new.self.items front
after-drop c =
    let known = known_keys (keys c.self.inside.met) c.self.inside.order.items in
    let before : AreKept c.self.inside.met.entries (c.pop.new.self.items ++ c.in-Some.last ∷ []) known =
    subst (λ (places : List KnownPlace). AreKept c.self.inside.met.entries places known) c.in-Some.ensures.items
    (refl, c.self.invariant.indexes, c.self.invariant.met, c.self.invariant.once) in
    kept-front c.self.inside.met.entries c.drop_place.new.met.entries c.pop.new.self.items c.in-Some.last known before c.drop_place.ensures.keys
    c.drop_place.ensures.place

pub invariant_of-self : goal.invariant_of-self
invariant_of-self c =
    let after = (after-drop c).3 in
    record {
      indexes = after.1;
      met = subst (AreMet c.drop_place.new.met.entries) (sym after.0) after.2;
      once = subst AreKnownOnce (sym after.0) after.3;
    }

pub returns-in-Some-clause-none : goal.returns-in-Some-clause-none
returns-in-Some-clause-none c = λ none.
    let after = after-drop c in
    absurd (no-snoc after.0 after.1 (sym after.2 ∙ c.self.view_is ∙ none))

pub returns-in-Some-clause-last : goal.returns-in-Some-clause-last
returns-in-Some-clause-last c = λ before last is.
    let after = after-drop c in
    after.3.0 ∙ (same_from_push after.0 before after.1 last (sym after.2 ∙ c.self.view_is ∙ is)).0

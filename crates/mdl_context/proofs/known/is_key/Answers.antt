-- The key is that of the entry with the index.
use Rattle.std.proofs.Common.{◌≡◌, ◌∙◌, None, Option, Some, ℕ, ap, option_map, refl, slice_get, sym}
use Rattle.std.specs.Map.Iter.{deref_pair}
use Rattle.std.proofs.lemmas.Option.{slice_get-map}
use Rattle.indexmap.specs.IndexMap.{keys}
use Rattle.mdl_key.specs.Keys.{KeyName}
use Rattle.mdl_context.proofs.known.is_key.Goals as goal

pub returns-in-Some : goal.returns-in-Some
returns-in-Some c =
    let met = c.args.met.now in
    let entry : slice_get met.entries c.args.index ≡ Some (c.in-Some.known.now, c.in-Some._place.now) = sym c.get_index.ensures.entry ∙ ap (option_map deref_pair) c.in-Some.is in
    let here : slice_get (keys met) c.args.index ≡ Some c.in-Some.known.now =
    slice_get-map (λ (e : KeyName × Option ℕ). e.0) met.entries c.args.index ∙ ap (option_map (λ (e : KeyName × Option ℕ). e.0)) entry in
    rw here c.eq.ensures

pub returns-in-None : goal.returns-in-None
returns-in-None c =
    let met = c.args.met.now in
    let entry : slice_get met.entries c.args.index ≡ None = sym c.get_index.ensures.entry ∙ ap (option_map deref_pair) c.in-None.is in
    let none : slice_get (keys met) c.args.index ≡ None =
    slice_get-map (λ (e : KeyName × Option ℕ). e.0) met.entries c.args.index ∙ ap (option_map (λ (e : KeyName × Option ℕ). e.0)) entry in
    rw none refl

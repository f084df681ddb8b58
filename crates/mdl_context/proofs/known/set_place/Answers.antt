-- A value written at an index is that of its key.
use Rattle.std.proofs.Common.{◌≡◌, ◌<◌, Option, ℕ, length, is_some, true, arith}
use Rattle.std.proofs.lemmas.List.{length-map}
use Rattle.std.proofs.lemmas.Option.{slice_get_within}
use Rattle.indexmap.proofs.CallerLemmas.{keys-with_value_at}
use Rattle.indexmap.specs.IndexMap.{keys}
use Rattle.mdl_key.specs.Keys.{KeyName}
use Rattle.mdl_context.proofs.KnownLemmas.{entry-found, met-written}
use Rattle.mdl_context.proofs.known.set_place.Goals as goal

pub returns-in-Some-clause-keys : goal.returns-in-Some-clause-keys
returns-in-Some-clause-keys c = keys-with_value_at c.args.met.now c.args.index c.args.place

pub returns-in-Some-clause-place : goal.returns-in-Some-clause-place
returns-in-Some-clause-place c = λ key q here.
    let entry = entry-found c.args.met.now.entries c.args.index key here in
    met-written c.args.met.now c.args.index key entry.0 c.args.place c.in-Some.ensures.unique entry.1 q

pub returns-in_default-clause-place : goal.returns-in_default-clause-place
returns-in_default-clause-place c = λ key q here.
    let inside : c.args.index < length c.args.met.now.entries =
    omega (arith, slice_get_within (keys c.args.met.now) c.args.index key here, length-map c.args.met.now.entries (λ (e : KeyName × Option ℕ). e.0)) in
    let some : is_some c.get_index_mut.result ≡ true = c.get_index_mut.ensures.found.1 inside in
    absurd (grind (arith, some, c.in_default.is))

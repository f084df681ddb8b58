-- A key that is in the map stays where it is, and a new one goes last.
use Rattle.std.proofs.Common.{◌≡◌, ◌∙◌, List, ℕ, Option, None, Some, length, slice_get, ap, sym, rules}
use Rattle.std.specs.Map.{lookup}
use Rattle.std.proofs.lemmas.List.{length-map}
use Rattle.indexmap.specs.IndexMap.{keys}
use Rattle.mdl_key.specs.Keys.{KeyName, key_eq}
use Rattle.mdl_context.proofs.KnownLemmas.{key-last, keys-grown, keys-inserted}
use Rattle.mdl_context.proofs.known.meet.Goals as goal

pub returns-in-Some-clause-index : goal.returns-in-Some-clause-index
returns-in-Some-clause-index c = ap (λ (ks : List KeyName). slice_get ks c.in-Some.index) c.set_place.ensures.keys ∙ c.in-Some.ensures.found

pub returns-in-Some-clause-places : goal.returns-in-Some-clause-places
returns-in-Some-clause-places c = λ q. c.set_place.ensures.place c.args.key.now q c.in-Some.ensures.found

pub returns-in-Some-clause-keys : goal.returns-in-Some-clause-keys
returns-in-Some-clause-keys c = λ i key here. ap (λ (ks : List KeyName). slice_get ks i) c.set_place.ensures.keys ∙ here

pub returns-clause-index : goal.returns-clause-index
returns-clause-index c =
    let same : c.in_ok-clone.field-0 ≡ c.args.key.now = search rules in
    let new : lookup (key_eq c.in_ok-clone.field-0) c.args.met.now.entries ≡ None = search rules in
    let grown = keys-inserted c.args.met.now c.insert.new.self.entries c.in_ok-clone.field-0 (Some c.args.place) new c.in_ok-insert.ensures.entries in
    let last : c.len-index.result ≡ length (keys c.args.met.now) = c.len-index.ensures.len ∙ sym (length-map c.args.met.now.entries (λ (e : KeyName × Option ℕ). e.0)) in
    rw (grown, last) (key-last (keys c.args.met.now) c.in_ok-clone.field-0 ∙ ap (λ (key : KeyName). Some key) same)

pub returns-clause-keys : goal.returns-clause-keys
returns-clause-keys c =
    let new : lookup (key_eq c.in_ok-clone.field-0) c.args.met.now.entries ≡ None = search rules in
    let grown = keys-inserted c.args.met.now c.insert.new.self.entries c.in_ok-clone.field-0 (Some c.args.place) new c.in_ok-insert.ensures.entries in
    λ i key here. ap (λ (ks : List KeyName). slice_get ks i) grown ∙ keys-grown (keys c.args.met.now) c.in_ok-clone.field-0 i key here

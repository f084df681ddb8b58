-- Each known key is compared, in order.
use Rattle.std.proofs.Common.{◌≡◌, ◌∙◌, Bor, None, Option, Some, ap, find, option_map, refl, rules, tests}
use Rattle.std.proofs.lemmas.Iterator.{YieldsList-from_slice}
use Rattle.std.proofs.lemmas.Iterator.Search.{find_from_yields_List}
use Rattle.indexmap.specs.IndexMap.{keys}
use Rattle.mdl_context.specs.declared.known.KnownPlace.{KnownPlace}
use Rattle.mdl_context.proofs.KnownLemmas.{is_key_at, place-found}
use Rattle.mdl_context.proofs.known.place_among.Goals as goal

in-two : (found : Option (Bor KnownPlace))
    → option_map (λ (known : Bor KnownPlace). known.now.place) found ≡ option_map (λ (known : KnownPlace). known.place) (option_map (λ (known : Bor KnownPlace). known.now) found)
in-two None = refl
in-two (Some known) = refl

pub returns : goal.returns
returns c =
    let met = keys c.args.met.now in
    let order = c.args.order.now in
    let key = c.args.key.now in
    let mapped : c.map.result ≡ option_map (λ (known : Bor KnownPlace). known.now.place) c.find.result = search (rules, tests) in
    let found : option_map (λ (known : Bor KnownPlace). known.now) c.find.result ≡ find (is_key_at met key) order =
    find_from_yields_List (is_key_at met key) _ _ c.find.result c.find.ensures.ran (YieldsList-from_slice order c.iter.ensures.rest) (λ x b q k. search (rules, tests)) in
    mapped ∙ in-two c.find.result ∙ ap (option_map (λ (known : KnownPlace). known.place)) found ∙ place-found met key order

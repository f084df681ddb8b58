-- Each ticket is looked at, in order.
use Rattle.std.proofs.Common.{rules, tests, ◌≡◌, ◌∙◌, ◌&&◌, true, false, sym, ap}
use Rattle.std.specs.Option.{option_map_or}
use Rattle.std.specs.List.{list_any}
use Rattle.std.proofs.lemmas.Iterator.{YieldsList-from_slice}
use Rattle.std.proofs.lemmas.Iterator.Search.{any_from_yields_List}
use Rattle.mdl_key.specs.Modes.{is_mode_of, kind_of}
use Rattle.mdl_context.specs.Contexts.{covers_at, place_known}
use Rattle.mdl_c_calls.proofs.KeptLemmas.{is_of_key, kept-by_key}
use Rattle.mdl_c_calls.proofs.manager.contexts.keeps.Goals as goal

pub returns : goal.returns
returns c =
    let key = c.args.key.now in let context = c.args.context.now in
    let has : is_mode_of (kind_of key.namespace) c.args.mode ≡ true =
    ap (λ kind. is_mode_of kind c.args.mode) (sym c.kind.ensures) ∙ sym c.has_mode.ensures ∙ c.if-not-has_mode.false in
    any_from_yields_List (is_of_key key c.args.mode c.args.space.now) _ _ c.any.result c.any.ensures.ran
    (YieldsList-from_slice context.kept (c.iter.ensures.rest ∙ c.kept-tickets.ensures)) (λ x b q k. search (rules, tests))
    ∙ kept-by_key c.args.space.now key context c.args.mode c.requires
    ∙ ap (λ b. b && option_map_or (λ place. list_any (covers_at place c.args.mode) context.kept) (place_known key context.known) false) (sym has)

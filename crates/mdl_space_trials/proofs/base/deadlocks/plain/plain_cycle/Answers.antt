-- The chosen way on from a session gives the chosen cycle through it.
use Rattle.std.proofs.Common.{◌∙◌, [], ◌∷◌, length, sym, subst, ap, Some, None, Option, List, Vec, Global, ℕ}
use Rattle.std.specs.Option.{option_map}
use Rattle.mdl_space_trials.specs.base.deadlocks.Ways.{search_of, IsWay, IsChosenOf}
use Rattle.mdl_space_trials.proofs.base.deadlocks.WayLemmas.{found_chosen, no_cycle_through, stands_in, stands_not_in}
use Rattle.mdl_space_trials.proofs.base.deadlocks.plain.plain_cycle.Goals as goal

pub returns-then-not-contains : goal.returns-then-not-contains
returns-then-not-contains c =
    sym (no_cycle_through (search_of c.args.ties.now c.args.sessions.now (c.args.from ∷ []))
    (stands_not_in c.args.from c.args.sessions.now (sym c.contains.ensures.value ∙ c.if-not-contains.true)))

pub returns-in_default : goal.returns-in_default
returns-in_default c =
    let path : List ℕ = c.args.from ∷ [] in
    let search = search_of c.args.ties.now c.args.sessions.now path in
    sym (found_chosen search None (stands_in c.args.from c.args.sessions.now (sym c.contains.ensures.value ∙ c.if-not-contains.false))
    (subst (λ (found : Option (Vec ℕ Global)). IsChosenOf (IsWay search path c.args.from (length c.args.sessions.now)) (option_map (λ way. way.items) found))
    c.in_default.is c.in_ok-way.ensures))

pub returns : goal.returns
returns c =
    let path : List ℕ = c.args.from ∷ [] in
    let search = search_of c.args.ties.now c.args.sessions.now path in
    ap Some c.in_ok-insert.ensures.items
    ∙ sym (found_chosen search (Some c.in-Some.way.items) (stands_in c.args.from c.args.sessions.now (sym c.contains.ensures.value ∙ c.if-not-contains.false))
    (subst (λ (found : Option (Vec ℕ Global)). IsChosenOf (IsWay search path c.args.from (length c.args.sessions.now)) (option_map (λ way. way.items) found))
    c.in-Some.is c.in_ok-way.ensures))

-- Turn by turn, the events so far and those of the turns that are left make up the whole.
use Rattle.std.proofs.Common.{◌≡◌, ◌∙◌, ℕ, zero, suc, List, [], ◌∷◌, ◌++◌, Some, None, flat_map, ap, sym, refl, subst, append_assoc, append-nil}
use Rattle.mdl_picture.specs.Moments.{EventView}
use Rattle.mdl_script.specs.Worlds.{Scene, World, continuing_settled, first_settled, going, turn_of}
use Rattle.mdl_script.proofs.SettleLemmas.{settling-none, settling-some}
use Rattle.mdl_timeline.specs.Moments.{turn_events, turns_after}

-- the events of the turns that are left
abbrev events_left : ℕ → World → List EventView
events_left n world = flat_map (turn_events []) (turns_after n world)

turns-none : (n : ℕ) (world : World) → first_settled world ≡ None → turns_after n world ≡ []
unfolding turns_after
turns-none zero world none = refl
turns-none (suc n) world none = rw none

turns-some : (n m : ℕ) (world : World) (who : ℕ) → n ≡ suc m → first_settled world ≡ Some who → turns_after n world ≡ going who world ∷ turns_after m (going who world).world
unfolding turns_after
turns-some n m world who same some = rw (same, some)

-- where no turn is left, that was all
pub turns-over : (n : ℕ) (world : World) (so whole : List EventView) (end : World) → n ≡ zero → so ++ events_left n world ≡ whole → (continuing_settled n world).world ≡ end
    → (so ≡ whole) × (world ≡ end)
unfolding turns_after continuing_settled
turns-over n world so whole end none far left = (
  sym (append-nil so) ∙ ap (λ k. so ++ events_left k world) (sym none) ∙ far,
  ap (λ k. (continuing_settled k world).world) (sym none) ∙ left,
)

-- one session goes on, and then the rest follows
pub one-turn : (n m : ℕ) (world after : World) (who : ℕ) (so next whole : List EventView) (end : World) → n ≡ suc m → first_settled world ≡ Some who
    → so ++ events_left n world ≡ whole → (continuing_settled n world).world ≡ end
    → next ≡ so ++ turn_events [] (turn_of (first_settled world) world) → after ≡ (turn_of (first_settled world) world).world
    → (next ++ events_left m after ≡ whole) × ((continuing_settled m after).world ≡ end)
one-turn n m world after who so next whole end fewer some far left now there =
    let turn : Scene = going who world in
    let is : turn_of (first_settled world) world ≡ turn = ap (λ found. turn_of found world) some in
    let gone : after ≡ turn.world = there ∙ ap (λ (scene : Scene). scene.world) is in
    let told : next ≡ so ++ turn_events [] turn = now ∙ ap (λ (scene : Scene). so ++ turn_events [] scene) is in
    subst (λ (w : World). (next ++ events_left m w ≡ whole) × ((continuing_settled m w).world ≡ end)) (sym gone) (
      ap (λ es. es ++ events_left m turn.world) told ∙ append_assoc so (turn_events [] turn) (events_left m turn.world)
          ∙ ap (λ (turns : List Scene). so ++ flat_map (turn_events []) turns) (sym (turns-some n m world who fewer some)) ∙ far,
      sym (ap (λ (scene : Scene). scene.world) (settling-some n m world who fewer some)) ∙ left,
    )

-- no session goes on: that was all
pub no-turn : (n : ℕ) (world after : World) (so next whole : List EventView) (end : World) → first_settled world ≡ None
    → so ++ events_left n world ≡ whole → (continuing_settled n world).world ≡ end
    → next ≡ so ++ turn_events [] (turn_of (first_settled world) world) → after ≡ (turn_of (first_settled world) world).world → (next ≡ whole) × (after ≡ end)
no-turn n world after so next whole end none far left now there = (
  now ∙ ap (λ found. so ++ turn_events [] (turn_of found world)) none ∙ ap (λ (turns : List Scene). so ++ flat_map (turn_events []) turns) (sym (turns-none n world none)) ∙ far,
  there ∙ ap (λ found. (turn_of found world).world) none ∙ sym (ap (λ (scene : Scene). scene.world) (settling-none n world none)) ∙ left,
)

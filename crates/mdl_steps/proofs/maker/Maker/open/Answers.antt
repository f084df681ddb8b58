-- The table at the start is reached.
use Rattle.std.proofs.Common.{◌≡◌, ℕ, suc, List, [], ◌∷◌, map, length, refl, sym, ap, ◌∙◌}
use Rattle.mdl_steps.proofs.Lemmas.{Reached, Slot, some, word_count}
use Rattle.mdl_steps.proofs.maker.Maker.open.Goals as goal

pub new-requires : goal.new-requires
new-requires c =
    (Reached.Opens c.args.sessions c.args.words.now c.args.slots.items c.requires, c.requires.wide ∙ ap (λ (n : ℕ). word_count n c.args.sessions) (sym (map_length c.args.slots.items)))
  where
    map_length : (xs : List Slot) → length (map (λ (x : Slot). some x) xs) ≡ length xs
    map_length [] = refl
    map_length (x ∷ xs) = ap suc (map_length xs)

-- Folds over so many elements.
use Rattle.std.proofs.Common.{◌≡◌, ◌∙◌, ℕ, ◌+◌, ◌<◌, List, length, get_or, take, ap, sym}
use Rattle.std.specs.List.{fold}
use Rattle.std.proofs.lemmas.List.Sums.{fold_more}

-- over one element more
pub one_more : {X Y : Type 0} (f : Y → X → Y) (a : Y) (xs : List X) (i : ℕ) (x : X) (now new : Y) → i < length xs → x ≡ get_or xs i x
    → now ≡ fold f a (take i xs) → new ≡ f now x → new ≡ fold f a (take (i + 1) xs)
one_more f a xs i x now new inside is so more =
    more ∙ ap (λ y. f y x) so ∙ ap (f (fold f a (take i xs))) is ∙ sym (fold_more f a xs i x inside)

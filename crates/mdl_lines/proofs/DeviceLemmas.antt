-- One write after another.
use Rattle.std.proofs.Common.{◌≡◌, ℕ, ◌+◌, List, ◌++◌, take, drop, Option, Some, None, ap, ◌∙◌, append_assoc}
use Rattle.std.proofs.Math.Seq.{take-add}
use Rattle.std.specs.Io.KnownBytes.{Appends}

appends_both : (a b c : Option (List ℕ)) (xs ys : List ℕ) → Appends a b xs → Appends b c ys → Appends a c (xs ++ ys)
appends_both None b c xs ys p q = tt
appends_both (Some a) None c xs ys p q = absurd p
appends_both (Some a) (Some b) None xs ys p q = absurd q
appends_both (Some a) (Some b) (Some c) xs ys p q = q ∙ ap (λ z. z ++ ys) p ∙ append_assoc a xs ys

-- what was written, and then some more of the text
pub appends_more : (a b c : Option (List ℕ)) (text : List ℕ) (done count : ℕ) → Appends a b (take done text) → Appends b c (take count (drop done text))
    → Appends a c (take (done + count) text)
appends_more a b c text done count p q =
    let e : take (done + count) text ≡ take done text ++ take count (drop done text) = take-add done count text in
    rw e (appends_both a b c (take done text) (take count (drop done text)) p q)

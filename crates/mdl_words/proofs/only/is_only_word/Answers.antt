-- Where there are two words, the second is the one that is compared.
use Rattle.std.proofs.Common.{◌≡◌, ◌∙◌, ◌<◌, ◌≤◌, arith, ap, sym, ℕ, List, [], ◌∷◌, drop, map, length, slice_index_or}
use Rattle.std.proofs.lemmas.Bool.Decides.{Decides-eqb}
use Rattle.std.proofs.lemmas.Slice.Eq.{slice_eq-Decides}
use Rattle.mdl_words.proofs.only.is_only_word.Goals as goal

behind_name : {A : Type 0} (text : A → List ℕ) (words : List A) (word : A) → 2 ≤ length words → length words < 3
    → word ≡ slice_index_or words 1 word → drop 1 (map text words) ≡ text word ∷ []
behind_name text [] word least below is = absurd (omega arith)
behind_name text (name ∷ []) word least below is = absurd (omega arith)
behind_name text (name ∷ next ∷ []) word least below is = ap (λ w. text w ∷ []) (sym is)
behind_name text (name ∷ next ∷ more ∷ rest) word least below is = absurd (omega arith)

only_word : (a b : List ℕ) → a ∷ [] ≡ b ∷ [] → a ≡ b
only_word a b e = cc

pub returns-in-len2 : goal.returns-in-len2
returns-in-len2 g c =
    let behind = behind_name g.S.AsStr.text c.args.words.now c.word-item.result c.in-len2.len_at_least c.in-len2.len_below c.word-item.is in
    let same = slice_eq-Decides Decides-eqb c.as_str.result.now _ c.eq.result c.eq.ensures in
    ((λ t. behind ∙ ap (λ w. w ∷ []) (sym c.as_str.ensures ∙ same.0 t)), λ e. same.1 (c.as_str.ensures ∙ only_word _ _ (sym behind ∙ e)))

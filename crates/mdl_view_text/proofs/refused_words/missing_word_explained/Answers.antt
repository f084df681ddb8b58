-- The word is the last one.
use Rattle.std.proofs.Common.{◌≡◌, ◌∙◌, ℕ, List, IfOk, ap, codes, length, subst}
use Rattle.mdl_view_text.specs.Explanations.{word_before}
use Rattle.mdl_view_text.specs.Refusals.{refused_word}
use Rattle.mdl_view_text.proofs.refused_words.missing_word_explained.Goals as goal

pub returns : goal.returns
returns c =
    subst (λ (word : List ℕ). IfOk c.refused_word.result
    (λ told. told.items ≡ refused_word c.args.number (length c.args.ends.now) word (codes ": a word is missing behind it")))
    (c.word_before-word.ensures ∙ ap (word_before c.args.line.now) c.last_end.ensures) c.refused_word.ensures

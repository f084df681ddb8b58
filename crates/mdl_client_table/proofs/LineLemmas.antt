-- Reading a text line by line.
use Rattle.std.proofs.Common.{◌≡◌, ◌∙◌, ℕ, ◌+◌, ◌<◌, List, [], length, get_or, drop, sym, ap, arith, add-one, drop-cons, ◌∷◌}
use Rattle.std.specs.Str.Lines.{strip_carriage_return}
use Rattle.std.proofs.lemmas.List.{get_or-map, length-map, drop_all}
use Rattle.mdl_lines.specs.Words.{lines_of}
use Rattle.mdl_lines.proofs.ScriptLemmas.{pieces}
use Rattle.mdl_client_table.specs.Forms.{with_line, with_lines}
use Rattle.mdl_client_table.specs.Cells.{ReadingText}

lines_left : (text line : List ℕ) (n : ℕ) → n < length (pieces text) → line ≡ get_or (pieces text) n line → drop n (lines_of text) ≡ strip_carriage_return line ∷ drop (n + 1) (lines_of text)
lines_left text line n l e =
    let at : get_or (lines_of text) n [] ≡ strip_carriage_return line = get_or-map strip_carriage_return (pieces text) n line [] l ∙ ap strip_carriage_return (sym e) in
    drop-cons (lines_of text) n [] (omega (arith, l, length-map (pieces text) strip_carriage_return)) ∙ (λ i. at i ∷ drop (sym (add-one n) i) (lines_of text))

module _ (text : List ℕ) where
  -- the lines that are left, the first of which is this one
  pub one-more : (line : List ℕ) (number n : ℕ) (table : ReadingText) → number ≡ n → (n < length (pieces text)) × (line ≡ get_or (pieces text) n line)
      → with_lines (number + 1) (drop number (lines_of text)) table
      ≡ with_lines (number + 1 + 1) (drop (number + 1) (lines_of text)) (with_line (number + 1) (strip_carriage_return line) table)
  one-more line number n table same h =
      let at : line ≡ get_or (pieces text) number line = h.1 ∙ ap (λ k. get_or (pieces text) k line) (sym same) in
      ap (λ lines. with_lines (number + 1) lines table) (lines_left text line number (omega (arith, same, h.0)) at)
      ∙ ap (λ k. with_lines k (drop (number + 1) (lines_of text)) (with_line (number + 1) (strip_carriage_return line) table)) (sym (add-one (number + 1)))

  -- no line is left
  pub all-read : (number n : ℕ) (table : ReadingText) → number ≡ n → n ≡ length (pieces text) → with_lines (number + 1) (drop number (lines_of text)) table ≡ table
  all-read number n table same e =
      ap (λ lines. with_lines (number + 1) lines table) (drop_all number (lines_of text) (omega (arith, same, e, length-map (pieces text) strip_carriage_return)))

use Rattle.std.proofs.Common.{◌≡◌, ◌≤◌, ℕ, List, [], true, length}
use Rattle.mdl_defs.specs.Definitions.{most_columns}
use Rattle.mdl_lines.specs.Lines.{words_of}
use Rattle.mdl_syntax.specs.Forms.{each_word, more_columns}
use Rattle.mdl_syntax.proofs.forms.some_columns.Given as goal

-- the columns so far, which were kept while there was room, before those of the words that are left, are all columns
abbrev pub invariant-loop-word : goal.invariant-loop-word
invariant-loop-word l = record {
  so_far : List (List ℕ);
  counted : l.count ≡ length so_far;
  within : l.count ≤ most_columns;
  read : each_word more_columns [] (words_of l.words) ≡ each_word more_columns so_far (words_of l.left);
  begun : l.count ≡ 0 → words_of l.words ≡ words_of l.left;
  kept : l.has_room ≡ true → so_far ≡ l.columns;
}

abbrev pub decreases-loop-word : goal.decreases-loop-word
decreases-loop-word l = length l.left

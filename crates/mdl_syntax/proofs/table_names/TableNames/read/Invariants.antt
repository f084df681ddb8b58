use Rattle.std.proofs.Common.{◌≡◌, [], length}
use Rattle.mdl_lines.specs.Lines.{words_of}
use Rattle.mdl_syntax.specs.Forms.{each_word, more_tables}
use Rattle.mdl_syntax.proofs.table_names.TableNames.read.Given as goal

-- the tables so far, before those of the words that are left, are all tables
abbrev pub invariant-loop-word : goal.invariant-loop-word
invariant-loop-word l = record {
  read : each_word more_tables [] (words_of l.words) ≡ each_word more_tables l.tables (words_of l.left);
  begun : l.tables ≡ [] → words_of l.words ≡ words_of l.left;
}

abbrev pub decreases-loop-word : goal.decreases-loop-word
decreases-loop-word l = length l.left

use Rattle.std.proofs.Common.{◌≡◌, List, [], true, length}
use Rattle.mdl_lines.specs.Lines.{words_of}
use Rattle.mdl_syntax.specs.declared.table_locks.TableLock.{TableLock}
use Rattle.mdl_syntax.specs.Forms.{more_locks, tables_of}
use Rattle.mdl_syntax.proofs.forms.some_locks.Given as goal

-- the tables so far, which were kept while there was room, before those of the words that are left, are all tables
abbrev pub invariant-loop-word : goal.invariant-loop-word
invariant-loop-word l = record {
  so_far : List TableLock;
  named : l.names ≡ tables_of so_far;
  read : more_locks [] (words_of l.words) ≡ more_locks so_far (words_of l.left);
  begun : l.names ≡ [] → words_of l.words ≡ words_of l.left;
  kept : l.has_room ≡ true → so_far ≡ l.locks;
}

abbrev pub decreases-loop-word : goal.decreases-loop-word
decreases-loop-word l = length l.left

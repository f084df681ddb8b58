-- One table more, and what it is locked for.
use Rattle.std.proofs.Common.{◌≡◌, ◌∷◌, ◌++◌, [], Ok, sym, ap, subst, ◌∙◌, rules}
use Rattle.std.proofs.lemmas.Bool.{false≢true}
use Rattle.std.proofs.lemmas.List.{map-append}
use Rattle.mdl_key.specs.Keys.{table_key}
use Rattle.mdl_lines.specs.Lines.{words_of}
use Rattle.mdl_syntax.specs.declared.table_locks.TableLock.{TableLock}
use Rattle.mdl_syntax.specs.Forms.{more_locks, next_table}
use Rattle.mdl_syntax.proofs.LockLemmas.{locks-next, some-before}
use Rattle.mdl_syntax.proofs.forms.some_locks.Goals as goal

pub loop-word-preserved-then-has_room : goal.loop-word-preserved-then-has_room
loop-word-preserved-then-has_room c =
    let so = c.loop-word.invariant in
    let word = c.in-Some.word.now in
    let table = table_key c.in_ok-name.name.schema.now c.in_ok-name.name.table.now in
    let lock : TableLock = record { table = table; lock_type = c.in_ok-lock_type.lock_type } in
    record {
      so_far = so.so_far ++ lock ∷ [];
      named = c.in_ok-name.ensures.1 ∙ ap (λ before. before ++ table ∷ []) so.named ∙ sym (map-append (λ (l : TableLock). l.table) so.so_far (lock ∷ []));
      read = so.read ∙ ap (more_locks so.so_far) c.in-Some.ensures.word
          ∙ locks-next so.so_far word (words_of c.in-Some.rest.now) (words_of c.in_ok-lock_type.rest.now) table c.in_ok-lock_type.lock_type
          (subst (λ tables. next_table tables word ≡ Ok table) so.named c.in_ok-name.ensures.0) c.in_ok-lock_type.ensures.said;
      begun = λ none. absurd (some-before c.loop-word.names table (sym c.in_ok-name.ensures.1 ∙ none));
      kept = λ room. let before = so.kept c.if-has_room.true in search rules;
    }

pub loop-word-preserved : goal.loop-word-preserved
loop-word-preserved c =
    let so = c.loop-word.invariant in
    let word = c.in-Some.word.now in
    let table = table_key c.in_ok-name.name.schema.now c.in_ok-name.name.table.now in
    let lock : TableLock = record { table = table; lock_type = c.in_ok-lock_type.lock_type } in
    record {
      so_far = so.so_far ++ lock ∷ [];
      named = c.in_ok-name.ensures.1 ∙ ap (λ before. before ++ table ∷ []) so.named ∙ sym (map-append (λ (l : TableLock). l.table) so.so_far (lock ∷ []));
      read = so.read ∙ ap (more_locks so.so_far) c.in-Some.ensures.word
          ∙ locks-next so.so_far word (words_of c.in-Some.rest.now) (words_of c.in_ok-lock_type.rest.now) table c.in_ok-lock_type.lock_type
          (subst (λ tables. next_table tables word ≡ Ok table) so.named c.in_ok-name.ensures.0) c.in_ok-lock_type.ensures.said;
      begun = λ none. absurd (some-before c.loop-word.names table (sym c.in_ok-name.ensures.1 ∙ none));
      kept = λ room. absurd (false≢true (sym c.if-has_room.false ∙ room));
    }

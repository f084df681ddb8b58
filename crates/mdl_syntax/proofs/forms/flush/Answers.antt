-- All four words are there, and no more.
use Rattle.std.proofs.Common.{List, ℕ, [], ◌∷◌, Option, codes, sym, subst, ◌∙◌}
use Rattle.std.specs.Prelude.{Err}
use Rattle.mdl_lines.specs.declared.fault.LineError.TheVariants.{BadWord}
use Rattle.mdl_lines.specs.Lines.{words_of}
use Rattle.mdl_syntax.specs.declared.statement.Statement.TheVariants.{FlushTablesWithReadLock}
use Rattle.mdl_syntax.specs.Forms.{form, no_more, read_by}
use Rattle.mdl_syntax.specs.Reading.{ReadsAs}
use Rattle.mdl_syntax.proofs.FormLemmas.{behind-more}
use Rattle.mdl_syntax.proofs.forms.flush.Goals as goal

pub returns-in-Some-behind-3 : goal.returns-in-Some-behind-3
returns-in-Some-behind-3 c =
    subst (λ (o : Option (List (List ℕ))). ReadsAs (read_by (form (codes "TABLES WITH READ LOCK") (no_more FlushTablesWithReadLock)) o (Err BadWord)) c.no_more.result)
    (sym (behind-more (codes "TABLES") (codes "WITH" ∷ codes "READ" ∷ codes "LOCK" ∷ []) (words_of c.args.words.now) (words_of c.in-Some.words.now) c.in-Some.ensures
    ∙ behind-more (codes "WITH") (codes "READ" ∷ codes "LOCK" ∷ []) (words_of c.in-Some.words.now) (words_of c.in-Some-behind.words.now) c.in-Some-behind.ensures
    ∙ behind-more (codes "READ") (codes "LOCK" ∷ []) (words_of c.in-Some-behind.words.now) (words_of c.in-Some-behind-2.words.now) c.in-Some-behind-2.ensures
    ∙ c.in-Some-behind-3.ensures))
    c.no_more.ensures

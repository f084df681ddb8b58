-- Words that fit no form.
use Rattle.std.proofs.Common.{◌≡◌, Bool, true, false, ℕ, List, [], ◌∷◌, Some, None, if◌then◌else◌, codes, refl, ap, subst, sym}
use Rattle.std.specs.Prelude.{Result, Err}
use Rattle.std.proofs.lemmas.Slice.Eq.{bytes_eq-Decides}
use Rattle.mdl_lines.specs.declared.fault.LineError.TheVariants.{BadWord}
use Rattle.mdl_lines.specs.Lines.{same_text}
use Rattle.mdl_syntax.specs.declared.no_statement.NoStatement.{NoStatement}
use Rattle.mdl_syntax.specs.declared.statement.Statement.{Statement}
use Rattle.mdl_syntax.specs.Forms.{statement_of}
use Rattle.mdl_syntax.specs.KeyWords.{behind}
use Rattle.mdl_syntax.specs.Reading.{ReadsAs}

differs : (word text : List ℕ) → (word ≡ text → ⊥) → same_text word text ≡ false
differs word text ne = by (same_text word text) (bytes_eq-Decides word text).0 where
  by : (b : Bool) → (b ≡ true → word ≡ text) → b ≡ false
  by true h = absurd (ne (h refl))
  by false h = refl

-- what is none of the first words of forms begins no statement
pub statement_of-unknown : (word : List ℕ) (words : List (List ℕ)) → (word ≡ codes "BEGIN" → ⊥) → (word ≡ codes "START" → ⊥) → (word ≡ codes "COMMIT" → ⊥) → (word ≡ codes "ROLLBACK" → ⊥) → (word ≡ codes "SAVEPOINT" → ⊥) → (word ≡ codes "SELECT" → ⊥) → (word ≡ codes "INSERT" → ⊥) → (word ≡ codes "UPDATE" → ⊥) → (word ≡ codes "DELETE" → ⊥) → (word ≡ codes "CREATE" → ⊥) → (word ≡ codes "DROP" → ⊥) → (word ≡ codes "RENAME" → ⊥) → (word ≡ codes "ALTER" → ⊥) → (word ≡ codes "LOCK" → ⊥) → (word ≡ codes "UNLOCK" → ⊥) → (word ≡ codes "FLUSH" → ⊥) → (word ≡ codes "KILL" → ⊥) → (word ≡ codes "TIMEOUT" → ⊥) → (word ≡ codes "GET_LOCK" → ⊥) → (word ≡ codes "RELEASE_LOCK" → ⊥) →
    statement_of (word ∷ words) ≡ Err BadWord
statement_of-unknown word words n0 n1 n2 n3 n4 n5 n6 n7 n8 n9 n10 n11 n12 n13 n14 n15 n16 n17 n18 n19 =
    rw (
      differs word (codes "BEGIN") n0,
      differs word (codes "START") n1,
      differs word (codes "COMMIT") n2,
      differs word (codes "ROLLBACK") n3,
      differs word (codes "SAVEPOINT") n4,
      differs word (codes "SELECT") n5,
      differs word (codes "INSERT") n6,
      differs word (codes "UPDATE") n7,
      differs word (codes "DELETE") n8,
      differs word (codes "CREATE") n9,
      differs word (codes "DROP") n10,
      differs word (codes "RENAME") n11,
      differs word (codes "ALTER") n12,
      differs word (codes "LOCK") n13,
      differs word (codes "UNLOCK") n14,
      differs word (codes "FLUSH") n15,
      differs word (codes "KILL") n16,
      differs word (codes "TIMEOUT") n17,
      differs word (codes "GET_LOCK") n18,
      differs word (codes "RELEASE_LOCK") n19,
    ) refl

-- a statement is read by its first word
pub says-at : (text : List ℕ) (line words : List (List ℕ)) (word : List ℕ) (result : Result Statement NoStatement) → line ≡ word ∷ words → word ≡ text →
    ReadsAs (statement_of (text ∷ words)) result → ReadsAs (statement_of line) result
says-at text line words word result is same reads =
    subst (λ (l : List (List ℕ)). ReadsAs (statement_of l) result) (sym is) (subst (λ (w : List ℕ). ReadsAs (statement_of (w ∷ words)) result) (sym same) reads)

-- what stands behind one key word and then others
pub behind-more : (key_word : List ℕ) (key_words words rest : List (List ℕ)) → behind (key_word ∷ []) words ≡ Some rest → behind (key_word ∷ key_words) words ≡ behind key_words rest
behind-more key_word key_words [] rest is = absurd (cc)
behind-more key_word key_words (word ∷ words) rest is = by (same_text word key_word) is where
  by : (same : Bool) → (if same then Some words else None) ≡ Some rest → (if same then behind key_words words else None) ≡ behind key_words rest
  by true e = ap (behind key_words) (cc)
  by false e = absurd (cc)

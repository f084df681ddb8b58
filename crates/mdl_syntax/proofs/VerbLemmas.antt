-- Words that are verbs, and what a statement says by its verb.
use Rattle.std.proofs.Common.{◌≡◌, Bool, true, false, ℕ, List, [], ◌∷◌, Some, None, if◌then◌else◌, codes, refl, ap, ◌∙◌}
use Rattle.std.specs.Prelude.{Result, Err}
use Rattle.std.proofs.lemmas.Slice.Eq.{bytes_eq-Decides}
use Rattle.mdl_lines.specs.declared.fault.LineError.TheVariants.{BadWord}
use Rattle.mdl_lines.specs.Lines.{same_text}
use Rattle.mdl_syntax.specs.declared.no_statement.NoStatement.{NoStatement}
use Rattle.mdl_syntax.specs.declared.statement.Statement.{Statement}
use Rattle.mdl_syntax.specs.declared.verb.Verb.{Verb}
use Rattle.mdl_syntax.specs.declared.verb.Verb.TheVariants.{Begin, Start, Commit, Rollback, Savepoint, Select, Insert, Update, Delete, Create, Drop, Rename, Alter, Lock, Unlock, Flush, Kill, Timeout, GetLock, ReleaseLock}
use Rattle.mdl_syntax.specs.Forms.{statement_of}
use Rattle.mdl_syntax.specs.Reading.{ReadsAs}
use Rattle.mdl_syntax.specs.Verbs.{listed_verb, verb_of, verbs}
use Rattle.mdl_syntax.proofs.FormLemmas.{says-at, statement_of-unknown}

-- the word of a verb
abbrev pub word_of : Verb → List ℕ
word_of Begin = codes "BEGIN"
word_of Start = codes "START"
word_of Commit = codes "COMMIT"
word_of Rollback = codes "ROLLBACK"
word_of Savepoint = codes "SAVEPOINT"
word_of Select = codes "SELECT"
word_of Insert = codes "INSERT"
word_of Update = codes "UPDATE"
word_of Delete = codes "DELETE"
word_of Create = codes "CREATE"
word_of Drop = codes "DROP"
word_of Rename = codes "RENAME"
word_of Alter = codes "ALTER"
word_of Lock = codes "LOCK"
word_of Unlock = codes "UNLOCK"
word_of Flush = codes "FLUSH"
word_of Kill = codes "KILL"
word_of Timeout = codes "TIMEOUT"
word_of GetLock = codes "GET_LOCK"
word_of ReleaseLock = codes "RELEASE_LOCK"

-- entries of a list have their verbs' words
abbrev HaveTheirWords : List (List ℕ × Verb) → Type 0
HaveTheirWords [] = Unit {0}
HaveTheirWords (entry ∷ entries) = (entry.0 ≡ word_of entry.1) × HaveTheirWords entries

same-verb : (one other : Verb) → Some one ≡ Some other → other ≡ one
same-verb one other e = cc

listed-word : (entries : List (List ℕ × Verb)) (word : List ℕ) (verb : Verb) → HaveTheirWords entries → Some verb ≡ listed_verb entries word → word ≡ word_of verb
listed-word [] word verb have e = absurd (cc)
listed-word (entry ∷ entries) word verb have e = by (same_text word entry.0) refl (listed-word entries word verb have.1) e where
  by : (same : Bool) → same_text word entry.0 ≡ same → (Some verb ≡ listed_verb entries word → word ≡ word_of verb)
      → Some verb ≡ (if same then Some entry.1 else listed_verb entries word) → word ≡ word_of verb
  by true is rest e = (bytes_eq-Decides word entry.0).0 is ∙ have.0 ∙ ap word_of (same-verb verb entry.1 e)
  by false is rest e = rest e

verb-word : (word : List ℕ) (verb : Verb) → Some verb ≡ verb_of word → word ≡ word_of verb
verb-word word verb e = listed-word verbs word verb (refl, (refl, (refl, (refl, (refl, (refl, (refl, (refl, (refl, (refl, (refl, (refl, (refl, (refl, (refl, (refl, (refl, (refl, (refl, (refl, tt)))))))))))))))))))) e

-- a statement is read by its verb
pub says-verb : (verb : Verb) (line words : List (List ℕ)) (word : List ℕ) (found : Verb) (result : Result Statement NoStatement) → line ≡ word ∷ words
    → Some found ≡ verb_of word → found ≡ verb → ReadsAs (statement_of (word_of verb ∷ words)) result → ReadsAs (statement_of line) result
says-verb verb line words word found result is named same reads = says-at (word_of verb) line words word result is (verb-word word found named ∙ ap word_of same) reads

-- a word that is no verb begins no statement
pub statement_of-no_verb : (word : List ℕ) (words : List (List ℕ)) → None ≡ verb_of word → statement_of (word ∷ words) ≡ Err BadWord
statement_of-no_verb word words none =
    statement_of-unknown word words
    (not_it (codes "BEGIN") Begin refl)
    (not_it (codes "START") Start refl)
    (not_it (codes "COMMIT") Commit refl)
    (not_it (codes "ROLLBACK") Rollback refl)
    (not_it (codes "SAVEPOINT") Savepoint refl)
    (not_it (codes "SELECT") Select refl)
    (not_it (codes "INSERT") Insert refl)
    (not_it (codes "UPDATE") Update refl)
    (not_it (codes "DELETE") Delete refl)
    (not_it (codes "CREATE") Create refl)
    (not_it (codes "DROP") Drop refl)
    (not_it (codes "RENAME") Rename refl)
    (not_it (codes "ALTER") Alter refl)
    (not_it (codes "LOCK") Lock refl)
    (not_it (codes "UNLOCK") Unlock refl)
    (not_it (codes "FLUSH") Flush refl)
    (not_it (codes "KILL") Kill refl)
    (not_it (codes "TIMEOUT") Timeout refl)
    (not_it (codes "GET_LOCK") GetLock refl)
    (not_it (codes "RELEASE_LOCK") ReleaseLock refl) where
      clash : (verb : Verb) → None ≡ Some verb → ⊥
      clash verb e = absurd (cc)

      not_it : (text : List ℕ) (verb : Verb) → verb_of text ≡ Some verb → word ≡ text → ⊥
      not_it text verb is e = clash verb (none ∙ ap verb_of e ∙ is)

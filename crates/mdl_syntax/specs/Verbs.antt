-- The first words of statements.
use Rattle.std.specs.Prelude.{ℕ, List, [], ◌∷◌, codes, Option, Some, None, if◌then◌else◌}
use Rattle.mdl_lines.specs.Lines.{same_text}
use Rattle.mdl_syntax.specs.declared.verb.Verb.{Verb}
use Rattle.mdl_syntax.specs.declared.verb.Verb.TheVariants.{Begin, Start, Commit, Rollback, Savepoint, Select, Insert, Update, Delete, Create, Drop, Rename, Alter, Lock, Unlock, Flush, Kill, Timeout, GetLock, ReleaseLock}

-- the verbs, each after its word
abbrev pub verbs : List (List ℕ × Verb)
verbs =
    (codes "BEGIN", Begin)
    ∷ (codes "START", Start)
    ∷ (codes "COMMIT", Commit)
    ∷ (codes "ROLLBACK", Rollback)
    ∷ (codes "SAVEPOINT", Savepoint)
    ∷ (codes "SELECT", Select)
    ∷ (codes "INSERT", Insert)
    ∷ (codes "UPDATE", Update)
    ∷ (codes "DELETE", Delete)
    ∷ (codes "CREATE", Create)
    ∷ (codes "DROP", Drop)
    ∷ (codes "RENAME", Rename)
    ∷ (codes "ALTER", Alter)
    ∷ (codes "LOCK", Lock)
    ∷ (codes "UNLOCK", Unlock)
    ∷ (codes "FLUSH", Flush)
    ∷ (codes "KILL", Kill)
    ∷ (codes "TIMEOUT", Timeout)
    ∷ (codes "GET_LOCK", GetLock)
    ∷ (codes "RELEASE_LOCK", ReleaseLock)
    ∷ []

-- the verb beside a word in this list, if the word is there
abbrev pub listed_verb : List (List ℕ × Verb) → List ℕ → Option Verb
listed_verb [] word = None
listed_verb (entry ∷ entries) word = if same_text word entry.0 then Some entry.1 else listed_verb entries word

-- the verb that a word is, if it is one
abbrev pub verb_of : List ℕ → Option Verb
verb_of word = listed_verb verbs word

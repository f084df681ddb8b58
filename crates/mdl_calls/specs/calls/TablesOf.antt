-- `tables_of`: places of tables of a schema, in the order of their keys. The session knows these from then on. That they have a definition, and that they are
-- all the schema's tables that have one, isn't said here. `mdl_core` says it of the space of one thread (`ToTellTables`). Of the table that threads share,
-- `mdl_shared` says that the place of each table that the directory has of the schema was looked at, and that these are the places that had a definition then
-- (`calls/TablesOf`). The call is refused only if memory runs out. It changes no ticket and no wait, and reads nothing.
use Rattle.std.specs.Prelude.{◌≡◌, ℕ, Bool, true, false, List}
use Rattle.mdl_calls.specs.FirstWords.{Answer, CallSpec, KnownKey, LearnsTables, Refused, Tables, memory_cause, unchanged}

-- its answers
abbrev pub answers : Answer → Bool
answers (Refused why) = true
answers (Tables places) = true
answers _ = false

-- the keys at those places are learnt
abbrev pub learns : List ℕ → Answer → List KnownKey → List KnownKey → Type 0
learns schema (Tables places) before after = LearnsTables schema places before after
learns schema _ before after = after ≡ before

-- the call
abbrev pub tables_of : ℕ → List ℕ → CallSpec
tables_of who schema = record (unchanged who) { takes_memory = true; answers = answers; cause = memory_cause; learns = learns schema }

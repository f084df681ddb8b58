-- The tables of a schema that have a definition: one look at the directory, and a look at the place of each of the schema's tables, in any order.
-- Afterwards the session knows the keys of all these tables.
use Rattle.std.specs.Prelude.{◌≡◌, ℕ, List, ◌++◌}
use Rattle.mdl_shared.specs.FirstWords.{Answer, AreAllTables, AreLearnt, HasAsked, Keys, KnownKey, Lists, LooksAtKeys, Refused, SessionView, StepSpec, Tables, TookDirectory, no_steps, unknown}

-- which steps were made, and what they met. A refusal comes at the look at the directory
abbrev pub met : List ℕ → Answer → Lists → SessionView → SessionView → Type 0
met schema (Tables places) l a b =
    (k : Keys) × TookDirectory a.table.slots k k a.me b.me
    × ((tables : List KnownKey) × AreAllTables schema k tables × HasAsked a.me.0.number tables places a.me b.me
    × (b.me.0.known ≡ l.known ++ unknown l.known tables) × AreLearnt tables b.me.0.known)
met schema (Refused why) l a b = LooksAtKeys a b
met schema _ l a b = ⊥

-- the call
abbrev pub tables_of : List ℕ → StepSpec
tables_of schema = record no_steps { met = met schema }

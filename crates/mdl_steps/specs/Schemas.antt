-- The tables of a schema by the directory.
use Rattle.std.specs.Prelude.{◌≡◌, ℕ, ◌+◌, ◌<◌, Bool, true, false, not, ◌&&◌, List, [], ◌∷◌, ◌++◌, filter, All, Some, if◌then◌else◌}
use Rattle.mdl_key.specs.declared.namespace.Namespace.TheVariants.{Table}
use Rattle.mdl_key.specs.declared.namespace.Namespace.{Namespace}
use Rattle.std.specs.Str.{bytes_eq}
use Rattle.mdl_steps.specs.FirstWords.{KeyName, Keys, KnownKey, key_at, key_eq, list_any}

-- whether the keys of a namespace are keys of tables
abbrev pub is_of_tables : Namespace → Bool
is_of_tables Table = true
is_of_tables _ = false

-- whether a key is the key of a table of this schema
abbrev pub is_table_of : List ℕ → KeyName → Bool
is_table_of schema key = is_of_tables key.namespace && bytes_eq key.schema schema

-- the key with its place if it is the key of a table of this schema, otherwise nothing
abbrev pub table_at : List ℕ → ℕ → KeyName → List KnownKey
table_at schema place key = if is_table_of schema key then record { key = key; place = place } ∷ [] else []

-- the tables of this schema with their places, given keys of which the first has this place and each other the next one
abbrev pub tables_from : List ℕ → ℕ → List KeyName → List KnownKey
tables_from schema place [] = []
tables_from schema place (key ∷ keys) = table_at schema place key ++ tables_from schema (place + 1) keys

-- each of these keys has its place by the record of the directory
abbrev pub StandThere : Keys → List KnownKey → Type 0
StandThere k known = All (λ (x : KnownKey). (0 < x.place) × (key_at k.keys x.place ≡ Some x.key)) known

-- whether a session that knows these keys knows this one
abbrev pub is_key_known : List KnownKey → KeyName → Bool
is_key_known known key = list_any (λ (k : KnownKey). key_eq k.key key) known

-- those of the keys `more` that aren't among the known ones
abbrev pub unknown : List KnownKey → List KnownKey → List KnownKey
unknown known more = filter (λ (k : KnownKey). not (is_key_known known k.key)) more

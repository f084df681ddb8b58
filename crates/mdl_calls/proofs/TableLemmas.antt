-- The keys of a schema's tables.
use Rattle.std.proofs.Common.{◌≡◌, ℕ, true, List, refl, sym}
use Rattle.std.proofs.lemmas.Bool.{and_parts}
use Rattle.std.proofs.lemmas.Slice.Eq.{bytes_eq-Decides}
use Rattle.mdl_calls.proofs.Common.{KeyName, Namespace, Table, is_of_tables, is_table_of, table_key}

of_tables : (n : Namespace) → is_of_tables n ≡ true → n ≡ Table
of_tables Table e = refl
of_tables _ e = cc

-- what passes for the key of a table of a schema is one
pub table-of : (schema : List ℕ) (key : KeyName) → is_table_of schema key ≡ true → table_key schema key.table ≡ key
table-of schema key is =
    let namespace = of_tables key.namespace (and_parts _ _ is).0 in
    let same : key.schema ≡ schema = (bytes_eq-Decides key.schema schema).0 (and_parts (is_of_tables key.namespace) _ is).1 in
    λ i. record { namespace = sym namespace i; schema = sym same i; table = key.table }

-- and the key of one passes for it
pub of-table : (schema table : List ℕ) → is_table_of schema (table_key schema table) ≡ true
of-table schema table = (bytes_eq-Decides schema schema).1 refl

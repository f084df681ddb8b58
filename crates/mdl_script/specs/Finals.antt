-- What is defined at the end of a run, and how it is printed. The wording is this project's own.
use Rattle.std.specs.Prelude.{ℕ, List, [], ◌∷◌, ◌++◌, codes, flat_map, Option, Some, None}
use Rattle.std.specs.Fmt.{decimal}
use Rattle.std.specs.List.Sorted.{IsPermutation, IsSortedByKey}
use Rattle.mdl_key.specs.Keys.{KeyName, key_cmp, key_text}
use Rattle.mdl_defs.specs.declared.definition.Definition.{Definition}
use Rattle.mdl_defs.specs.declared.definition.Definition.TheVariants.{Schema, Table}
use Rattle.mdl_visits.specs.declared.audited.Audited.{Audited}
use Rattle.mdl_script.specs.Texts.{columns_text}

-- what follows the version: a table's columns, nothing for a schema
abbrev pub definition_text : Definition → List ℕ
definition_text Schema = []
definition_text (Table columns) = columns_text columns

-- the line of a definition: `FINAL SCHEMA s@version` or `FINAL TABLE s.t@version(c1,c2)`
abbrev pub defined_line : KeyName → ℕ → Definition → List ℕ
defined_line key version definition =
    codes "FINAL " ++ key_text key ++ codes "@" ++ decimal version ++ definition_text definition ++ 10 ∷ []

-- the line of a key with its version, if it has a definition, otherwise nothing
abbrev pub final_line : KeyName → ℕ → Option Definition → List ℕ
final_line key version None = []
final_line key version (Some definition) = defined_line key version definition

-- the line of a book, if its key has a definition
abbrev pub book_line : Audited → List ℕ
book_line audited = final_line audited.book.key audited.book.standing.version audited.book.standing.definition

-- the lines of books, in order
abbrev pub finals_text : List Audited → List ℕ
finals_text = flat_map book_line

-- `sorted` has the same books as `books`, in the order of their keys
pub record AreInKeyOrder (books sorted : List Audited) : Type 0 where
  pub same : IsPermutation books sorted
  pub rising : IsSortedByKey (λ (audited : Audited). audited.book.key) key_cmp sorted

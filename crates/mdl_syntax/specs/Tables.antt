-- How the tables of a statement are kept.
use Rattle.std.specs.Prelude.{List, [], ◌∷◌, Option, Some, None}
use Rattle.mdl_key.specs.Keys.{KeyName}

-- the only table, or otherwise those of the list
abbrev pub only_or_list : Option KeyName → List KeyName → List KeyName
only_or_list (Some table) tables = table ∷ []
only_or_list None tables = tables

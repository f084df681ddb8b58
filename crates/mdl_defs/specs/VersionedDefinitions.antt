-- A key's version and definition, and how they change, after MySQL 5.7: the Reference Manual, "CREATE TABLE Statement". That
-- only the key of a schema can have a schema, and only that of a table a table, and the limit, are this project's own.
use Rattle.std.specs.Prelude.{◌≡◌, ◌+◌, ◌≤◌, Bool, true, false, not, ◌&&◌, nat_le, is_some, if◌then◌else◌, Option, Some, None}
use Rattle.std.specs.Option.{option_map, IfSome}
use Rattle.mdl_key.specs.declared.namespace.Namespace.{Namespace}
use Rattle.mdl_key.specs.declared.namespace.Namespace.TheVariants as of
use Rattle.mdl_defs.specs.declared.change.Change.{Change}
use Rattle.mdl_defs.specs.declared.change.Change.TheVariants.{Create, Put}
use Rattle.mdl_defs.specs.declared.change_error.ChangeError.{ChangeError}
use Rattle.mdl_defs.specs.declared.change_error.ChangeError.TheVariants.{VersionFull, WrongKind, Def}
use Rattle.mdl_defs.specs.declared.definition.Definition.{Definition}
use Rattle.mdl_defs.specs.declared.definition.Definition.TheVariants.{Schema, Table}
use Rattle.mdl_defs.specs.declared.versioned_definition.VersionedDefinition.{VersionedDefinition}
use Rattle.mdl_defs.specs.Changes.{change_fault, changed}
use Rattle.mdl_defs.specs.Definitions.{IsWellFormed}

-- version 0, without a definition
abbrev pub nothing_yet : VersionedDefinition
nothing_yet = record { version = 0; definition = None }

-- whether a definition is of the kind that a key of this namespace can have
abbrev pub fits : Namespace → Definition → Bool
fits of.Schema Schema = true
fits of.Table (Table _) = true
fits _ _ = false

-- whether a key of this namespace can have a definition
abbrev pub is_defined : Namespace → Bool
is_defined of.Schema = true
is_defined of.Table = true
is_defined _ = false

-- whether a change is of a kind that a key of this namespace can have
abbrev pub suits : Namespace → Change → Bool
suits namespace (Create definition) = fits namespace definition
suits namespace (Put definition) = fits namespace definition
suits namespace _ = is_defined namespace

-- why a change of a key's definition is refused: the key has the greatest version, the change doesn't suit the key, or the
-- definition can't be changed in this way
abbrev pub standing_fault : Namespace → Change → VersionedDefinition → Option ChangeError
standing_fault namespace change standing =
    if nat_le 1000000 standing.version then Some VersionFull
    else (if not (suits namespace change) then Some WrongKind else option_map Def (change_fault standing.definition change))

-- the version and definition after a change: the version is greater by one
abbrev pub standing_after : Change → VersionedDefinition → VersionedDefinition
standing_after change standing = record { version = standing.version + 1; definition = changed standing.definition change }

-- the definition of a key of this namespace after a change, if the change can be made
abbrev pub applied : Namespace → Change → Option Definition → Option (Option Definition)
applied namespace change standing =
    if suits namespace change && not (is_some (change_fault standing change)) then Some (changed standing change) else None

-- a version and definition that a key of this namespace can have: the version is at most 1,000,000, version 0 has no
-- definition, and the definition is well formed and of the key's kind
pub record MayStand (namespace : Namespace) (standing : VersionedDefinition) : Type 0 where
  pub limit : standing.version ≤ 1000000
  pub unchanged : standing.version ≡ 0 → standing.definition ≡ None
  pub well_formed : IsWellFormed standing.definition
  pub fits : IfSome standing.definition (λ definition. fits namespace definition ≡ true)

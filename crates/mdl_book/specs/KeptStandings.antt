-- A key's version and definition, as a book stores them.
use Rattle.std.specs.Prelude.{Option, Some, None, Box}
use Rattle.mdl_defs.specs.declared.versioned_definition.VersionedDefinition.{VersionedDefinition}
use Rattle.mdl_defs.specs.VersionedDefinitions.{nothing_yet}

-- the version and definition that are stored; version 0 and no definition before the first change
abbrev pub standing_of : {Z : Type 0} → Option (Box VersionedDefinition Z) → VersionedDefinition
standing_of None = nothing_yet
standing_of (Some kept) = kept.value

-- Laws of changes. Which definitions are valid is this project's own choice.
use Rattle.std.specs.Prelude.{◌≡◌, Option, None}
use Rattle.mdl_key.specs.declared.namespace.Namespace.{Namespace}
use Rattle.mdl_defs.specs.declared.change.Change.{Change}
use Rattle.mdl_defs.specs.declared.definition.Definition.{Definition}
use Rattle.mdl_defs.specs.declared.versioned_definition.VersionedDefinition.{VersionedDefinition}
use Rattle.mdl_defs.specs.Changes.{change_fault, changed}
use Rattle.mdl_defs.specs.Definitions.{IsWellFormed}
use Rattle.mdl_defs.specs.VersionedDefinitions.{standing_fault, standing_after, MayStand}

-- if a definition is well formed, so is the one after any change that isn't refused
abbrev pub ChangesKeepWellFormed : Type 0
ChangesKeepWellFormed =
    (standing : Option Definition) (change : Change) →
    IsWellFormed standing →
    change_fault standing change ≡ None →
    IsWellFormed (changed standing change)

-- if a version and definition are valid for a key, so are those after any change that isn't refused
abbrev pub ChangesKeepStanding : Type 0
ChangesKeepStanding =
    (namespace : Namespace) (standing : VersionedDefinition) (change : Change) →
    MayStand namespace standing →
    standing_fault namespace change standing ≡ None →
    MayStand namespace (standing_after change standing)

-- What stands under a key after a change may stand there, and what a change is refused for.
use Rattle.std.proofs.Common.{◌≡◌, ◌≢◌, refl, ℕ, ◌<◌, ◌==◌, nat_lt, nat_le, Bool, true, false, not, ◌&&◌, cond, List, length, Option, Some, None, is_some, option_map, arith, ap, subst, ◌∙◌}
use Rattle.std.specs.Option.{IfSome}
use Rattle.std.proofs.lemmas.Bool.{leb-false}
use Rattle.mdl_key.specs.declared.namespace.Namespace.{Namespace}
use Rattle.mdl_key.specs.declared.namespace.Namespace.TheVariants as of
use Rattle.mdl_defs.specs.declared.change.Change.{Change}
use Rattle.mdl_defs.specs.declared.change.Change.TheVariants.{Create, Drop, AddColumn, DropColumn, Put}
use Rattle.mdl_defs.specs.declared.change_error.ChangeError.{ChangeError}
use Rattle.mdl_defs.specs.declared.change_error.ChangeError.TheVariants.{VersionFull, WrongKind, Def}
use Rattle.mdl_defs.specs.declared.def_error.DefError.{DefError}
use Rattle.mdl_defs.specs.declared.def_error.DefError.TheVariants as fault
use Rattle.mdl_defs.specs.declared.definition.Definition.{Definition}
use Rattle.mdl_defs.specs.declared.definition.Definition.TheVariants.{Schema, Table}
use Rattle.mdl_defs.specs.declared.versioned_definition.VersionedDefinition.{VersionedDefinition}
use Rattle.mdl_defs.specs.Columns.{has_column, names_twice}
use Rattle.mdl_defs.specs.Definitions.{definition_fault}
use Rattle.mdl_defs.specs.Changes.{change_fault, changed}
use Rattle.mdl_defs.specs.Laws.{ChangesKeepStanding}
use Rattle.mdl_defs.specs.VersionedDefinitions.{nothing_yet, fits, suits, standing_fault, applied, MayStand}
use Rattle.mdl_defs.proofs.ChangeLemmas.{IsWellFormed-changed}

-- ---- where nothing is at fault

-- a change that isn't refused has a version left, suits the key, and can be made of what stands
pub unfaulted : (namespace : Namespace) (change : Change) (standing : VersionedDefinition) → standing_fault namespace change standing ≡ None
    → (standing.version < 1000000) × (suits namespace change ≡ true) × (change_fault standing.definition change ≡ None)
unfaulted namespace change standing e = by (nat_le 1000000 standing.version) refl (suits namespace change) refl (change_fault standing.definition change) refl e
  where
    by : (full : Bool) → nat_le 1000000 standing.version ≡ full → (fit : Bool) → suits namespace change ≡ fit
        → (why : Option DefError) → change_fault standing.definition change ≡ why
        → cond full (Some VersionFull) (cond (not fit) (Some WrongKind) (option_map Def why)) ≡ None
        → (standing.version < 1000000) × (suits namespace change ≡ true) × (change_fault standing.definition change ≡ None)
    by true full fit fits why is e = absurd (cc)
    by false full false fits why is e = absurd (cc)
    by false full true fits (Some fault) is e = absurd (cc)
    by false full true fits None is e = (leb-false 1000000 standing.version full, fits, is)

-- then it is what the change makes of it
pub applied-changed : (namespace : Namespace) (change : Change) (standing : VersionedDefinition) → standing_fault namespace change standing ≡ None
    → applied namespace change standing.definition ≡ Some (changed standing.definition change)
applied-changed namespace change standing e =
    let free = unfaulted namespace change standing e in
    λ i. cond (free.1 i && not (is_some (free.2 i))) (Some (changed standing.definition change)) None

-- ---- what may stand

pub nothing-stands : (namespace : Namespace) → MayStand namespace nothing_yet
nothing-stands namespace = record { limit = omega arith; unchanged = λ e. refl; well_formed = tt; fits = tt }

-- a table with other columns is a table
other_columns-fit : (namespace : Namespace) (one other : List (List ℕ)) → fits namespace (Table one) ≡ true → fits namespace (Table other) ≡ true
other_columns-fit of.Table one other e = refl
other_columns-fit _ one other e = e

-- what comes to stand is of the key's kind
changed-fits : (namespace : Namespace) (standing : Option Definition) (change : Change) → IfSome standing (λ definition. fits namespace definition ≡ true)
    → suits namespace change ≡ true → IfSome (changed standing change) (λ definition. fits namespace definition ≡ true)
changed-fits namespace standing (Create definition) before suited = suited
changed-fits namespace standing Drop before suited = tt
changed-fits namespace None (AddColumn column) before suited = before
changed-fits namespace (Some Schema) (AddColumn column) before suited = before
changed-fits namespace (Some (Table columns)) (AddColumn column) before suited = other_columns-fit namespace columns _ before
changed-fits namespace None (DropColumn column) before suited = before
changed-fits namespace (Some Schema) (DropColumn column) before suited = before
changed-fits namespace (Some (Table columns)) (DropColumn column) before suited = other_columns-fit namespace columns _ before
changed-fits namespace standing (Put definition) before suited = suited

pub changes-keep_standing : ChangesKeepStanding
changes-keep_standing namespace standing change may e =
    let free = unfaulted namespace change standing e in
    let few = free.0 in
    record {
      limit = omega arith;
      unchanged = λ none. absurd (omega arith);
      well_formed = IsWellFormed-changed standing.definition change may.well_formed free.2;
      fits = changed-fits namespace standing.definition change may.fits free.1;
    }

-- ---- want of memory

-- of none of these causes it is one
unless : {A : Type 0} (test : Bool) (cause other : A) (rest : Option A) → cause ≢ other → rest ≢ Some other → cond test (Some cause) rest ≢ Some other
unless true cause other rest apart later e = apart (cc)
unless false cause other rest apart later e = later e

none_is : {A : Type 0} (other : A) → None ≢ Some other
none_is other e = cc

definition-never_wants : (definition : Definition) → definition_fault definition ≢ Some fault.OutOfMemory
definition-never_wants Schema = none_is fault.OutOfMemory
definition-never_wants (Table columns) =
    unless (names_twice columns) fault.DuplicateColumn fault.OutOfMemory _ (λ e. cc)
    (unless (nat_lt 64 (length columns)) fault.ManyColumns fault.OutOfMemory _ (λ e. cc)
    (unless (length columns == 0) fault.WrongKind fault.OutOfMemory None (λ e. cc) (none_is fault.OutOfMemory)))

-- what stands never lacks memory
pub change-never_wants : (standing : Option Definition) (change : Change) → change_fault standing change ≢ Some fault.OutOfMemory
change-never_wants None (Create definition) = definition-never_wants definition
change-never_wants (Some _) (Create definition) = λ e. cc
change-never_wants None Drop = λ e. cc
change-never_wants (Some _) Drop = λ e. cc
change-never_wants None (AddColumn column) = λ e. cc
change-never_wants (Some Schema) (AddColumn column) = λ e. cc
change-never_wants (Some (Table columns)) (AddColumn column) =
    unless (has_column column columns) fault.DuplicateColumn fault.OutOfMemory _ (λ e. cc)
    (unless (nat_le 64 (length columns)) fault.ManyColumns fault.OutOfMemory None (λ e. cc) (none_is fault.OutOfMemory))
change-never_wants None (DropColumn column) = λ e. cc
change-never_wants (Some Schema) (DropColumn column) = λ e. cc
change-never_wants (Some (Table columns)) (DropColumn column) =
    unless (not (has_column column columns)) fault.NoColumn fault.OutOfMemory _ (λ e. cc)
    (unless (length columns == 1) fault.LastColumn fault.OutOfMemory None (λ e. cc) (none_is fault.OutOfMemory))
change-never_wants None (Put definition) = definition-never_wants definition
change-never_wants (Some Schema) (Put definition) = definition-never_wants definition
change-never_wants (Some (Table columns)) (Put definition) = definition-never_wants definition

-- what a change is refused for, by cases: each with what it says
pub fault-cases : (P : ChangeError → Type 0) (namespace : Namespace) (change : Change) (standing : VersionedDefinition)
    → (nat_le 1000000 standing.version ≡ true → P VersionFull) → P WrongKind → ((why : DefError) → why ≢ fault.OutOfMemory → P (Def why))
    → (why : ChangeError) → standing_fault namespace change standing ≡ Some why → P why
fault-cases P namespace change standing full wrong def why =
    by (nat_le 1000000 standing.version) refl (suits namespace change) (change_fault standing.definition change) refl
  where
    by : (b : Bool) → nat_le 1000000 standing.version ≡ b → (fit : Bool) → (reason : Option DefError) → change_fault standing.definition change ≡ reason
        → cond b (Some VersionFull) (cond (not fit) (Some WrongKind) (option_map Def reason)) ≡ Some why → P why
    by true is fit reason of_it e = subst P (cc) (full is)
    by false is false reason of_it e = subst P (cc) wrong
    by false is true None of_it e = absurd (cc)
    by false is true (Some one) of_it e = subst P (cc) (def one (λ same. change-never_wants standing.definition change (of_it ∙ ap (λ x. Some x) same)))

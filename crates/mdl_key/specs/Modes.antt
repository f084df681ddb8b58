-- Namespaces, kinds of lock and lock modes, after MySQL 5.7: `MDL_key::enum_mdl_namespace` and `enum_mdl_type` of
-- sql/mdl.h, and the Reference Manual, "Metadata Locking".
use Rattle.std.specs.Prelude.{◌≡◌, ℕ, Bool, not, List, [], ◌∷◌, codes, ◌==◌, MatchResult}
use Rattle.std.specs.Prelude.{Result}
use Rattle.std.specs.List.{list_any}
use Rattle.mdl_key.specs.declared.namespace.Namespace.{Namespace}
use Rattle.mdl_key.specs.declared.namespace.Namespace.TheVariants as namespace
use Rattle.mdl_key.specs.declared.namespace.Kind.{Kind}
use Rattle.mdl_key.specs.declared.namespace.Kind.TheVariants.{Scoped, Object}
use Rattle.mdl_key.specs.declared.mode.Mode.{Mode}
use Rattle.mdl_key.specs.declared.mode.Mode.TheVariants.{IX, S, SH, SR, SW, SWLP, SU, SRO, SNW, SNRW, X}

-- the kind of a namespace's locks: tables and user-level locks are objects, all others are scopes
abbrev pub kind_of : Namespace → Kind
kind_of namespace.Global = Scoped
kind_of namespace.Schema = Scoped
kind_of namespace.Table = Object
kind_of namespace.Commit = Scoped
kind_of namespace.UserLevelLock = Object

-- the place of a mode in the order of the modes
abbrev pub mode_rank : Mode → ℕ
mode_rank IX = 0
mode_rank S = 1
mode_rank SH = 2
mode_rank SR = 3
mode_rank SW = 4
mode_rank SWLP = 5
mode_rank SU = 6
mode_rank SRO = 7
mode_rank SNW = 8
mode_rank SNRW = 9
mode_rank X = 10

-- whether two modes are the same
abbrev pub same_mode : Mode → Mode → Bool
same_mode a b = mode_rank a == mode_rank b

-- the modes in their order
abbrev pub all_modes : List Mode
all_modes = IX ∷ S ∷ SH ∷ SR ∷ SW ∷ SWLP ∷ SU ∷ SRO ∷ SNW ∷ SNRW ∷ X ∷ []

-- whether locks of a kind use a mode: scoped locks use IX, S and X, object locks all modes but IX
abbrev pub is_mode_of : Kind → Mode → Bool
is_mode_of Scoped mode = list_any (same_mode mode) (IX ∷ S ∷ X ∷ [])
is_mode_of Object mode = not (same_mode mode IX)

-- the name of a mode
abbrev pub mode_name : Mode → List ℕ
mode_name IX = codes "IX"
mode_name S = codes "S"
mode_name SH = codes "SH"
mode_name SR = codes "SR"
mode_name SW = codes "SW"
mode_name SWLP = codes "SWLP"
mode_name SU = codes "SU"
mode_name SRO = codes "SRO"
mode_name SNW = codes "SNW"
mode_name SNRW = codes "SNRW"
mode_name X = codes "X"

-- the result of reading a text as a mode: the mode of that name, or an error if no mode has that name
abbrev pub NamesMode : {E : Type 0} → List ℕ → Result Mode E → Type 0
NamesMode text r = MatchResult r (λ mode. mode_name mode ≡ text) (λ _. (mode : Mode) → mode_name mode ≡ text → ⊥)

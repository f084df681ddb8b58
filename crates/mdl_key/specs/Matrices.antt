-- The two matrices of metadata locking, after MySQL 5.7: sql/mdl.cc, the compatibility and the priority matrices of scoped
-- and of object locks (granted, waiting), without a switch of priorities. Each row lists the modes of other sessions that
-- the requested mode clashes with or waits behind. The rows are this project's choice: if a release has another entry, as
-- for SRO and SWLP in the waiting matrix, these rows decide.
use Rattle.std.specs.Prelude.{Bool, List, [], ◌∷◌, IsTrue}
use Rattle.std.specs.List.{list_any}
use Rattle.mdl_key.specs.declared.namespace.Kind.{Kind}
use Rattle.mdl_key.specs.declared.namespace.Kind.TheVariants.{Scoped, Object}
use Rattle.mdl_key.specs.declared.mode.Mode.{Mode}
use Rattle.mdl_key.specs.declared.mode.Mode.TheVariants.{IX, S, SH, SR, SW, SWLP, SU, SRO, SNW, SNRW, X}
use Rattle.mdl_key.specs.Modes.{same_mode}

-- the granted matrix: the modes that clash with the requested one when another session holds them
abbrev pub granted_conflicts : Kind → Mode → List Mode
granted_conflicts Scoped IX = S ∷ X ∷ []
granted_conflicts Scoped S = IX ∷ X ∷ []
granted_conflicts Scoped X = IX ∷ S ∷ X ∷ []
granted_conflicts Scoped _ = []
granted_conflicts Object S = X ∷ []
granted_conflicts Object SH = X ∷ []
granted_conflicts Object SR = SNRW ∷ X ∷ []
granted_conflicts Object SW = SRO ∷ SNW ∷ SNRW ∷ X ∷ []
granted_conflicts Object SWLP = SRO ∷ SNW ∷ SNRW ∷ X ∷ []
granted_conflicts Object SU = SU ∷ SNW ∷ SNRW ∷ X ∷ []
granted_conflicts Object SRO = SW ∷ SWLP ∷ SNRW ∷ X ∷ []
granted_conflicts Object SNW = SW ∷ SWLP ∷ SU ∷ SNW ∷ SNRW ∷ X ∷ []
granted_conflicts Object SNRW = SR ∷ SW ∷ SWLP ∷ SU ∷ SRO ∷ SNW ∷ SNRW ∷ X ∷ []
granted_conflicts Object X = S ∷ SH ∷ SR ∷ SW ∷ SWLP ∷ SU ∷ SRO ∷ SNW ∷ SNRW ∷ X ∷ []
granted_conflicts Object IX = []

-- the waiting matrix: the modes that the requested one waits behind when another session waits for them
abbrev pub waiting_conflicts : Kind → Mode → List Mode
waiting_conflicts Scoped IX = S ∷ X ∷ []
waiting_conflicts Scoped S = X ∷ []
waiting_conflicts Scoped X = []
waiting_conflicts Scoped _ = []
waiting_conflicts Object S = X ∷ []
waiting_conflicts Object SH = []
waiting_conflicts Object SR = SNRW ∷ X ∷ []
waiting_conflicts Object SW = SNW ∷ SNRW ∷ X ∷ []
waiting_conflicts Object SWLP = SRO ∷ SNW ∷ SNRW ∷ X ∷ []
waiting_conflicts Object SU = X ∷ []
waiting_conflicts Object SRO = SW ∷ SNRW ∷ X ∷ []
waiting_conflicts Object SNW = X ∷ []
waiting_conflicts Object SNRW = X ∷ []
waiting_conflicts Object X = []
waiting_conflicts Object IX = []

-- whether the granted matrix lists the held mode for the requested one
abbrev pub clashes : Kind → Mode → Mode → Bool
clashes kind ask held = list_any (same_mode held) (granted_conflicts kind ask)

-- a request for the first mode clashes with another session's lock in the second
abbrev pub Clashes : Kind → Mode → Mode → Type 0
Clashes kind ask held = IsTrue (clashes kind ask held)

-- whether the waiting matrix lists the pending mode for the requested one
abbrev pub waits_behind : Kind → Mode → Mode → Bool
waits_behind kind ask pending = list_any (same_mode pending) (waiting_conflicts kind ask)

-- a request for the first mode waits behind another session's request for the second
abbrev pub WaitsBehind : Kind → Mode → Mode → Type 0
WaitsBehind kind ask pending = IsTrue (waits_behind kind ask pending)

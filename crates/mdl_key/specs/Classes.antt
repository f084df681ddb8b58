-- How modes are counted, compared and weighed, after MySQL 5.7: sql/mdl.cc, the unobtrusive lock increments, and
-- sql/mdl.h, the weight of a request in a search for deadlocks.
use Rattle.std.specs.Prelude.{ℕ, Bool, not, nat_le, if◌then◌else◌, Option, Some, None, IsTrue, is_some}
use Rattle.std.specs.List.{list_all}
use Rattle.mdl_key.specs.declared.namespace.Namespace.{Namespace}
use Rattle.mdl_key.specs.declared.namespace.Namespace.TheVariants.{Global, UserLevelLock}
use Rattle.mdl_key.specs.declared.namespace.Kind.{Kind}
use Rattle.mdl_key.specs.declared.namespace.Kind.TheVariants.{Scoped, Object}
use Rattle.mdl_key.specs.declared.mode.Mode.{Mode}
use Rattle.mdl_key.specs.declared.mode.Mode.TheVariants.{IX, S, SH, SR, SW, SWLP, SU}
use Rattle.mdl_key.specs.Modes.{mode_rank}
use Rattle.mdl_key.specs.Matrices.{clashes, granted_conflicts}

-- the class in which tickets of a mode are counted, if they are: those in IX of scoped locks and in S, SH, SR, SW, SWLP of
-- object locks
abbrev pub class_of : Kind → Mode → Option ℕ
class_of Scoped IX = Some 0
class_of Scoped _ = None
class_of Object S = Some 0
class_of Object SH = Some 0
class_of Object SR = Some 1
class_of Object SW = Some 2
class_of Object SWLP = Some 2
class_of Object _ = None

-- whether a mode is obtrusive, as all other modes are: its tickets are never merely counted, and every request has to check them
abbrev pub is_obtrusive : Kind → Mode → Bool
is_obtrusive kind mode = not (is_some (class_of kind mode))

-- a is at least as strong as b: whatever clashes with b clashes with a. Both are to be modes of the kind
abbrev pub IsAtLeast : Kind → Mode → Mode → Type 0
IsAtLeast kind a b = (held : Mode) → IsTrue (clashes kind b held) → IsTrue (clashes kind a held)

-- whether a is at least as strong as b, by the rows of the granted matrix
abbrev pub is_at_least : Kind → Mode → Mode → Bool
is_at_least kind a b = list_all (clashes kind a) (granted_conflicts kind b)

-- the weight of a request: 100 in the namespace of the global lock and 50 in that of user-level locks, for every mode. Elsewhere
-- it is 100 for SU and the modes after it in the order of modes, and 0 for the others
abbrev pub weight_of : Namespace → Mode → ℕ
weight_of Global mode = 100
weight_of UserLevelLock mode = 50
weight_of _ mode = if nat_le (mode_rank SU) (mode_rank mode) then 100 else 0

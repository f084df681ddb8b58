-- The two matrices of both kinds of lock as they are printed: a line for each mode of a kind. The layout is this project's
-- own.
use Rattle.std.specs.Prelude.{ℕ, List, [], ◌∷◌, ◌++◌, codes, filter, flat_map}
use Rattle.std.specs.List.{join_by}
use Rattle.mdl_key.specs.declared.namespace.Kind.{Kind}
use Rattle.mdl_key.specs.declared.namespace.Kind.TheVariants.{Scoped, Object}
use Rattle.mdl_key.specs.declared.mode.Mode.{Mode}
use Rattle.mdl_key.specs.Words.{granted_conflicts, waiting_conflicts, all_modes, is_mode_of, mode_name}
use Rattle.mdl_lock.specs.declared.matrices.Matrix.{Matrix}
use Rattle.mdl_lock.specs.declared.matrices.Matrix.TheVariants.{Granted, Waiting}

abbrev pub kind_name : Kind → List ℕ
kind_name Scoped = codes "SCOPED"
kind_name Object = codes "OBJECT"

abbrev pub matrix_name : Matrix → List ℕ
matrix_name Granted = codes "GRANTED"
matrix_name Waiting = codes "WAITING"

-- the row of a matrix for the requested mode: the modes of other sessions that block it
abbrev pub row_of : Matrix → Kind → Mode → List Mode
row_of Granted = granted_conflicts
row_of Waiting = waiting_conflicts

-- the modes of a row, separated by spaces, or `-` if there are none
abbrev pub row_text : List Mode → List ℕ
row_text [] = codes "-"
row_text (mode ∷ modes) = join_by mode_name (codes " ") (mode ∷ modes)

-- the line of a row: the kind, the matrix, the requested mode, and the row
abbrev pub line_of : Kind → Matrix → Mode → List ℕ
line_of kind matrix ask =
    kind_name kind ++ codes " " ++ matrix_name matrix ++ codes " " ++ mode_name ask ++ codes ": " ++ row_text (row_of matrix kind ask) ++ 10 ∷ []

-- the lines of a matrix: one for each mode of the kind, in their order
abbrev pub lines_of_matrix : Kind → Matrix → List ℕ
lines_of_matrix kind matrix = flat_map (line_of kind matrix) (filter (is_mode_of kind) all_modes)

-- both matrices of both kinds
abbrev pub matrix_text : List ℕ
matrix_text =
    lines_of_matrix Scoped Granted ++ lines_of_matrix Scoped Waiting ++ lines_of_matrix Object Granted ++ lines_of_matrix Object Waiting

-- texts, each with a line feed
abbrev pub printed : List (List ℕ) → List ℕ
printed texts = flat_map (λ text. text ++ 10 ∷ []) texts

-- the lines of the matrices
abbrev pub known_lines : List (List ℕ)
known_lines =
    codes "SCOPED GRANTED IX: S X" ∷
    codes "SCOPED GRANTED S: IX X" ∷
    codes "SCOPED GRANTED X: IX S X" ∷
    codes "SCOPED WAITING IX: S X" ∷
    codes "SCOPED WAITING S: X" ∷
    codes "SCOPED WAITING X: -" ∷
    codes "OBJECT GRANTED S: X" ∷
    codes "OBJECT GRANTED SH: X" ∷
    codes "OBJECT GRANTED SR: SNRW X" ∷
    codes "OBJECT GRANTED SW: SRO SNW SNRW X" ∷
    codes "OBJECT GRANTED SWLP: SRO SNW SNRW X" ∷
    codes "OBJECT GRANTED SU: SU SNW SNRW X" ∷
    codes "OBJECT GRANTED SRO: SW SWLP SNRW X" ∷
    codes "OBJECT GRANTED SNW: SW SWLP SU SNW SNRW X" ∷
    codes "OBJECT GRANTED SNRW: SR SW SWLP SU SRO SNW SNRW X" ∷
    codes "OBJECT GRANTED X: S SH SR SW SWLP SU SRO SNW SNRW X" ∷
    codes "OBJECT WAITING S: X" ∷
    codes "OBJECT WAITING SH: -" ∷
    codes "OBJECT WAITING SR: SNRW X" ∷
    codes "OBJECT WAITING SW: SNW SNRW X" ∷
    codes "OBJECT WAITING SWLP: SRO SNW SNRW X" ∷
    codes "OBJECT WAITING SU: X" ∷
    codes "OBJECT WAITING SRO: SW SNRW X" ∷
    codes "OBJECT WAITING SNW: X" ∷
    codes "OBJECT WAITING SNRW: X" ∷
    codes "OBJECT WAITING X: -" ∷
    []

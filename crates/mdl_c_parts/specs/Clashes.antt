-- Whether two modes clash, as C asks for it.
use Rattle.std.specs.Prelude.{ℕ, ◌&&◌, Option, Some, None, if◌then◌else◌}
use Rattle.mdl_key.specs.declared.mode.Mode.{Mode}
use Rattle.mdl_key.specs.declared.namespace.Namespace.{Namespace}
use Rattle.mdl_key.specs.declared.namespace.Kind.{Kind}
use Rattle.mdl_key.specs.Matrices.{clashes}
use Rattle.mdl_key.specs.Modes.{is_mode_of, kind_of}
use Rattle.mdl_c_parts.specs.Codes.{bad_mode, no_mode, no_namespace, would_wait}

-- a request for a mode would wait while another session holds the other one, or it wouldn't, or keys of this kind don't take both
abbrev pub clash_among : Kind → Mode → Mode → ℕ
clash_among kind held wanted =
    if is_mode_of kind held && is_mode_of kind wanted then (if clashes kind wanted held then would_wait else 0) else bad_mode

-- the same of numbers, if they name a namespace and two modes
abbrev pub clash_answer : Option Namespace → Option Mode → Option Mode → ℕ
clash_answer None held wanted = no_namespace
clash_answer (Some namespace) None wanted = no_mode
clash_answer (Some namespace) (Some held) None = no_mode
clash_answer (Some namespace) (Some held) (Some wanted) = clash_among (kind_of namespace) held wanted

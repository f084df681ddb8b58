-- The codes that C gets of a script, and the numbers by which it names a kind of lock. They are this project's own choice.
use Rattle.std.specs.Prelude.{ℕ, ◌==◌, Option, Some, None, if◌then◌else◌}
use Rattle.mdl_key.specs.declared.namespace.Kind.{Kind}
use Rattle.mdl_key.specs.declared.namespace.Kind.TheVariants.{Object, Scoped}
use Rattle.mdl_lines.specs.declared.fault.LineError.{LineError}
use Rattle.mdl_lines.specs.declared.fault.LineError.TheVariants.{BadSession, BadWord, BadName, LongLine, NotAscii}

-- all answers are written, they don't fit, there is no such kind of lock, or memory ran out
abbrev pub done : ℕ
done = 0

abbrev pub no_room : ℕ
no_room = 1

abbrev pub no_kind : ℕ
no_kind = 21

abbrev pub no_memory : ℕ
no_memory = 45

-- the code that says why a line is refused
abbrev pub line_code : LineError → ℕ
line_code BadSession = 16
line_code BadWord = 17
line_code BadName = 18
line_code LongLine = 19
line_code NotAscii = 20

-- the kind of lock with this number: 0 is a table's, 1 a scoped one
abbrev pub kind_at : ℕ → Option Kind
kind_at number =
    if number == 0 then Some Object
    else (if number == 1 then Some Scoped else None)

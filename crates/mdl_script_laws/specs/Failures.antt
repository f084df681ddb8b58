-- Statements that change at most one definition, and fail, have changed none.
use Rattle.std.specs.Prelude.{◌≡◌, ℕ, Bool, true, false, ◌∷◌}
use Rattle.std.specs.Option.{IfSome}
use Rattle.mdl_core.specs.CoreJoins.{Joins}
use Rattle.mdl_core.specs.CoreSystems.{system_of}
use Rattle.mdl_core.specs.Cores.{Core}
use Rattle.mdl_core.specs.Ties.{IsSoundCore}
use Rattle.mdl_system.specs.Words.{SameAt}
use Rattle.mdl_calls.specs.Words.{Each, Runs}
use Rattle.mdl_syntax.specs.declared.statement.Statement.{Statement}
use Rattle.mdl_syntax.specs.declared.statement.Statement.TheVariants.{DropTables, DropSchema, RenameTable}
use Rattle.mdl_rows.specs.declared.reply.Reply.TheVariants as reply
use Rattle.mdl_rows.specs.Endings.{Pause, Ends, Faults}
use Rattle.mdl_rows.specs.MemoryLaws.{session_of_pause}
use Rattle.mdl_rows.specs.Playing.{starting, going_on}
use Rattle.mdl_rows.specs.Sessions.{Left, Session}
use Rattle.mdl_script_laws.specs.ChangesLast.{ChangesAtMostOnce}

-- a statement has ended with an error, or because memory ran out
abbrev pub HasFailed : Pause → Type 0
HasFailed (Ends (reply.Error number) session) = Unit {0}
HasFailed (Faults session) = Unit {0}
HasFailed _ = ⊥

-- each key has the same version and definition in both spaces
abbrev pub SameDefinitions : Core → Core → Type 0
SameDefinitions a b = SameAt (system_of a).definitions (system_of b).definitions

-- whether a statement changes at most one definition. DROP TABLE of several tables, DROP SCHEMA and RENAME TABLE may change more
abbrev pub changes_one : Statement → Bool
changes_one (DropTables (table ∷ other ∷ tables)) = false
changes_one (DropSchema name) = false
changes_one (RenameTable from to) = false
changes_one _ = true

-- what is left of a session's statement, if anything, changes at most one definition, whatever ticket it goes on with
abbrev pub HasOneLeft : Session → Type 0
HasOneLeft session = IfSome session.left (λ (left : Left). (id : ℕ) → ChangesAtMostOnce (left.rest id))

-- a statement that changes at most one definition, and fails, has changed none: as it starts, or, if it has waited, as it goes on
abbrev pub FailuresChangeNothing : Type 0
FailuresChangeNothing =
    (session : Session) (a b : Core) (pause : Pause) → IsSoundCore a → HasFailed pause →
    ((statement : Statement) → changes_one statement ≡ true → Runs Joins a (starting statement session) pause b → SameDefinitions a b)
    × (HasOneLeft session → Runs Joins a (going_on session) pause b → SameDefinitions a b)

-- if such a statement waits, what is left of it changes at most one definition
abbrev pub WaitersHaveOneLeft : Type 0
WaitersHaveOneLeft =
    (session : Session) →
    ((statement : Statement) → changes_one statement ≡ true → Each (λ pause. HasOneLeft (session_of_pause pause)) (starting statement session))
    × (HasOneLeft session → Each (λ pause. HasOneLeft (session_of_pause pause)) (going_on session))

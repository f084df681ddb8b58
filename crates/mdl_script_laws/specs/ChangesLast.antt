-- Statements change definitions last: all checks, all locks and all that takes memory come before.
use Rattle.std.specs.Prelude.{◌≡◌, ℕ, List, Option}
use Rattle.mdl_key.specs.Keys.{KeyName}
use Rattle.mdl_context.specs.declared.request.Mark.{Mark}
use Rattle.mdl_defs.specs.declared.change.Change.TheVariants as change
use Rattle.mdl_defs.specs.declared.versioned_definition.VersionedDefinition.{VersionedDefinition}
use Rattle.mdl_syntax.specs.declared.statement.Statement.{Statement}
use Rattle.mdl_rows.specs.declared.reply.Reply.{Reply}
use Rattle.mdl_rows.specs.declared.reply.Reply.TheVariants as reply
use Rattle.mdl_rows.specs.Rows.{Row}
use Rattle.mdl_rows.specs.Rows as row
use Rattle.mdl_rows.specs.States.{State}
use Rattle.mdl_rows.specs.Statements.{row_of}

-- a row that only lowers locks, and answers OK
abbrev pub OnlyLowers : Row Reply → Type 0
OnlyLowers (row.Give told) = told ≡ reply.Ok
OnlyLowers (row.Downgrade id mode rest) = OnlyLowers rest
OnlyLowers _ = ⊥

-- a row that only drops definitions, which takes no memory, lowers locks, and answers OK
abbrev pub OnlyFinishes : Row Reply → Type 0
OnlyFinishes (row.Give told) = told ≡ reply.Ok
OnlyFinishes (row.Downgrade id mode rest) = OnlyFinishes rest
OnlyFinishes (row.Redefine id change.Drop rest) = OnlyFinishes rest
OnlyFinishes _ = ⊥

-- P holds of what is left of a row after its first change of a definition, whatever the calls before returned
abbrev pub BehindItsChange : (Row Reply → Type 0) → Row Reply → Type 0
BehindItsChange P (row.Give told) = Unit {0}
BehindItsChange P (row.Fail number) = Unit {0}
BehindItsChange P (row.Room rest) = BehindItsChange P rest
BehindItsChange P (row.Look rest) = (state : State) → BehindItsChange P (rest state)
BehindItsChange P (row.Set change rest) = BehindItsChange P rest
BehindItsChange P (row.Here rest) = (mark : Mark) → BehindItsChange P (rest mark)
BehindItsChange P (row.Acquire wish rest) = (id : ℕ) → BehindItsChange P (rest id)
BehindItsChange P (row.Try_acquire wish rest) = (got : Option ℕ) → BehindItsChange P (rest got)
BehindItsChange P (row.Last key rest) = (held : Option ℕ) → BehindItsChange P (rest held)
BehindItsChange P (row.Upgrade id key mode rest) = (new : ℕ) → BehindItsChange P (rest new)
BehindItsChange P (row.Downgrade id mode rest) = BehindItsChange P rest
BehindItsChange P (row.Give_up which rest) = BehindItsChange P rest
BehindItsChange P (row.Release id rest) = BehindItsChange P rest
BehindItsChange P (row.Keep rest) = BehindItsChange P rest
BehindItsChange P (row.Read id rest) = (standing : VersionedDefinition) → BehindItsChange P (rest standing)
BehindItsChange P (row.Redefine id change rest) = P rest
BehindItsChange P (row.Tables_of schema rest) = (places : List ℕ) → BehindItsChange P (rest places)
BehindItsChange P (row.Key_of place rest) = (key : KeyName) → BehindItsChange P (rest key)
BehindItsChange P (row.Kill target rest) = BehindItsChange P rest

-- a row that makes all its checks, requests all its locks and all its memory, and reads all that it reads, before its first change
abbrev pub ChecksBeforeChanges : Row Reply → Type 0
ChecksBeforeChanges = BehindItsChange OnlyFinishes

-- the first change is the only one
abbrev pub ChangesAtMostOnce : Row Reply → Type 0
ChangesAtMostOnce = BehindItsChange OnlyLowers

-- every statement makes its checks before it changes a definition
abbrev pub StatementsCheckBeforeTheyChange : Type 0
StatementsCheckBeforeTheyChange = (statement : Statement) → ChecksBeforeChanges (row_of statement)

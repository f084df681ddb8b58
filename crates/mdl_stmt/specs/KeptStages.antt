-- What is left of a statement at each of its stages, from copies of what it names: the same as in the module Stages.
use Rattle.std.specs.Prelude.{ℕ, true, drop, Option}
use Rattle.std.specs.Option.{option_map}
use Rattle.mdl_defs.specs.Caches.{CacheView}
use Rattle.mdl_context.specs.Contexts.{ContextView}
use Rattle.mdl_rows.specs.declared.reply.Reply.{Reply}
use Rattle.mdl_rows.specs.declared.reply.Reply.TheVariants as reply
use Rattle.mdl_stmt.specs.declared.kept_stage.KeptWork.{KeptWork}
use Rattle.mdl_stmt.specs.declared.kept_stage.KeptStage.{KeptStage}
use Rattle.mdl_stmt.specs.declared.kept_stage.KeptStage.TheVariants.{Commit, Select, Write, Create, CreateSchema, Drop, DropSchema, Rename, Flush, Alter, Lock, GetLock}
use Rattle.mdl_stmt.specs.declared.kept_stage.KeptWriting.{KeptWriting}
use Rattle.mdl_stmt.specs.declared.kept_stage.KeptWriting.TheVariants as writing
use Rattle.mdl_stmt.specs.declared.kept_stage.KeptCreating.{KeptCreating}
use Rattle.mdl_stmt.specs.declared.kept_stage.KeptCreating.TheVariants as creating
use Rattle.mdl_stmt.specs.declared.kept_stage.KeptCreatingSchema.{KeptCreatingSchema}
use Rattle.mdl_stmt.specs.declared.kept_stage.KeptCreatingSchema.TheVariants as creating_schema
use Rattle.mdl_stmt.specs.declared.kept_stage.KeptDropping.{KeptDropping}
use Rattle.mdl_stmt.specs.declared.kept_stage.KeptDropping.TheVariants as dropping
use Rattle.mdl_stmt.specs.declared.kept_stage.KeptDroppingSchema.{KeptDroppingSchema}
use Rattle.mdl_stmt.specs.declared.kept_stage.KeptDroppingSchema.TheVariants as dropping_schema
use Rattle.mdl_stmt.specs.LockLists.{with_next_ticket}
use Rattle.mdl_rows.specs.Rows.{Row, Give, ◌>>◌}
use Rattle.mdl_rows.specs.Sessions.{Left, Session}
use Rattle.mdl_stmt.specs.Players.{PlayerView}
use Rattle.mdl_rows.specs.States.{State}
use Rattle.mdl_stmt.specs.Stages.{lock_rest, rest_of_altering, rest_of_flushing, rest_of_locking, rest_of_renaming, show_next}
use Rattle.mdl_rows.specs.Statements.{after_commit, create_schema_under, create_under, drop_schema_under, drop_under, drop_with, end_under, lock_and_create, lock_and_create_schema, lock_and_drop, lock_and_drop_schema, lock_and_write, lock_schema_and_create, write_under}

-- what is left of INSERT, UPDATE or DELETE
abbrev pub rest_of_kept_writing : KeptWriting → ℕ → Row Reply
rest_of_kept_writing (writing.Global table priority) global = lock_and_write table priority
rest_of_kept_writing writing.Table ticket = write_under ticket
rest_of_kept_writing writing.Commit lock = end_under lock >> Give reply.Ok

-- what is left of CREATE TABLE
abbrev pub rest_of_kept_creating : KeptCreating → ℕ → Row Reply
rest_of_kept_creating (creating.Global table columns) global = lock_schema_and_create table columns
rest_of_kept_creating (creating.Schema table columns) schema = lock_and_create table columns schema
rest_of_kept_creating (creating.Table columns schema) ticket = create_under columns schema ticket

-- what is left of CREATE SCHEMA
abbrev pub rest_of_kept_creating_schema : KeptCreatingSchema → ℕ → Row Reply
rest_of_kept_creating_schema (creating_schema.Global name) global = lock_and_create_schema name
rest_of_kept_creating_schema creating_schema.Schema ticket = create_schema_under ticket

-- what is left of DROP TABLE
abbrev pub rest_of_kept_dropping : KeptDropping → ℕ → Row Reply
rest_of_kept_dropping (dropping.Scopes tables locks) ticket = lock_rest (with_next_ticket ticket locks) (λ scopes. lock_and_drop tables)
rest_of_kept_dropping (dropping.Tables locks) ticket = lock_rest (with_next_ticket ticket locks) drop_under

-- what is left of DROP SCHEMA
abbrev pub rest_of_kept_dropping_schema : KeptDroppingSchema → ℕ → Row Reply
rest_of_kept_dropping_schema (dropping_schema.Global name) global = lock_and_drop_schema name
rest_of_kept_dropping_schema (dropping_schema.Schema name) ticket = drop_schema_under name ticket
rest_of_kept_dropping_schema (dropping_schema.Tables schema locks) ticket = lock_rest (with_next_ticket ticket locks) (drop_with schema)

-- what is left of a statement
abbrev pub rest_of_kept : KeptStage → ℕ → Row Reply
rest_of_kept (Commit statement) lock = end_under lock >> after_commit statement
rest_of_kept (Select tables at shown) ticket = show_next shown (drop at tables.items) ticket
rest_of_kept (Write at) ticket = rest_of_kept_writing at ticket
rest_of_kept (Create at) ticket = rest_of_kept_creating at ticket
rest_of_kept (CreateSchema at) ticket = rest_of_kept_creating_schema at ticket
rest_of_kept (Drop at) ticket = rest_of_kept_dropping at ticket
rest_of_kept (DropSchema at) ticket = rest_of_kept_dropping_schema at ticket
rest_of_kept (Rename from to at) ticket = rest_of_renaming from to at ticket
rest_of_kept (Flush at) ticket = rest_of_flushing at ticket
rest_of_kept (Alter alteration at) ticket = rest_of_altering alteration at ticket
rest_of_kept (Lock tables at) ticket = rest_of_locking tables at ticket
rest_of_kept GetLock ticket = Give (reply.Number true)

-- what is left of a statement, with the session's mark when the statement began
abbrev pub left_of_kept : KeptWork → Left
left_of_kept work = record { rest = rest_of_kept work.stage; mark = work.mark }

-- a session as its owned runner represents it
pub record OwnedView : Type 0 where
  pub context : ContextView
  pub state : State
  pub work : Option KeptWork
  pub cache : CacheView

-- a session, from its player and the copy of its waiting statement
abbrev pub session_with : PlayerView → Option KeptWork → Session
session_with player work = record { context = player.context; state = player.state; left = option_map left_of_kept work }

-- the session of an owned runner
abbrev pub session_kept : OwnedView → Session
session_kept runner = record { context = runner.context; state = runner.state; left = option_map left_of_kept runner.work }

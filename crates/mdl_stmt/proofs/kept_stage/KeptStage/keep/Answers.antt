-- What is copied of a stage leads to the same.
use Rattle.std.proofs.Common.{ap, sym, ◌∙◌}
use Rattle.mdl_stmt.specs.Stages.{rest_of}
use Rattle.mdl_stmt.proofs.kept_stage.KeptStage.keep.Goals as goal

pub returns-in_ok-keep-in-Write : goal.returns-in_ok-keep-in-Write
returns-in_ok-keep-in-Write c = c.in_ok-keep-in-Write.ensures ∙ ap rest_of (sym c.in-Write.is)

pub returns-in_ok-keep-in-Create : goal.returns-in_ok-keep-in-Create
returns-in_ok-keep-in-Create c = c.in_ok-keep-in-Create.ensures ∙ ap rest_of (sym c.in-Create.is)

pub returns-in_ok-keep-in-CreateSchema : goal.returns-in_ok-keep-in-CreateSchema
returns-in_ok-keep-in-CreateSchema c = c.in_ok-keep-in-CreateSchema.ensures ∙ ap rest_of (sym c.in-CreateSchema.is)

pub returns-in_ok-keep-in-Drop : goal.returns-in_ok-keep-in-Drop
returns-in_ok-keep-in-Drop c = c.in_ok-keep-in-Drop.ensures ∙ ap rest_of (sym c.in-Drop.is)

pub returns-in_ok-keep-in-DropSchema : goal.returns-in_ok-keep-in-DropSchema
returns-in_ok-keep-in-DropSchema c = c.in_ok-keep-in-DropSchema.ensures ∙ ap rest_of (sym c.in-DropSchema.is)

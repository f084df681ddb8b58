-- What is lent is the same.
use Rattle.std.proofs.Common.{ap, sym}
use Rattle.mdl_stmt.specs.KeptStages.{rest_of_kept_creating}
use Rattle.mdl_stmt.proofs.kept_stage.KeptCreating.lend.Goals as goal

pub returns-in-Global : goal.returns-in-Global
returns-in-Global c = ap rest_of_kept_creating (sym c.in-Global.is)

pub returns-in-Schema : goal.returns-in-Schema
returns-in-Schema c = ap rest_of_kept_creating (sym c.in-Schema.is)

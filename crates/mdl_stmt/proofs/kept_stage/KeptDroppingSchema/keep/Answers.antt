-- What is copied is the same.
use Rattle.std.proofs.Common.{ap, sym, ◌∙◌}
use Rattle.mdl_stmt.specs.declared.kept_stage.KeptDroppingSchema.TheVariants as kept
use Rattle.mdl_stmt.specs.KeptStages.{rest_of_kept_dropping_schema}
use Rattle.mdl_stmt.specs.Stages.{rest_of_dropping_schema}
use Rattle.mdl_stmt.proofs.kept_stage.KeptDroppingSchema.keep.Goals as goal

pub returns-in_ok-clone-in-Global : goal.returns-in_ok-clone-in-Global
returns-in_ok-clone-in-Global c =
    ap (λ name. rest_of_kept_dropping_schema (kept.Global name)) c.in_ok-clone-in-Global.ensures.cases ∙ ap rest_of_dropping_schema (sym c.in-Global.is)

pub returns-in_ok-clone-in-Schema : goal.returns-in_ok-clone-in-Schema
returns-in_ok-clone-in-Schema c =
    ap (λ name. rest_of_kept_dropping_schema (kept.Schema name)) c.in_ok-clone-in-Schema.ensures.cases ∙ ap rest_of_dropping_schema (sym c.in-Schema.is)

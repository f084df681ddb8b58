-- What is copied is the same.
use Rattle.std.proofs.Common.{ap, sym, ◌∙◌}
use Rattle.mdl_stmt.specs.declared.kept_stage.KeptCreating.TheVariants as kept
use Rattle.mdl_stmt.specs.KeptStages.{rest_of_kept_creating}
use Rattle.mdl_stmt.specs.Stages.{rest_of_creating}
use Rattle.mdl_stmt.proofs.kept_stage.KeptCreating.keep.Goals as goal

pub returns-in_ok-clone-in-Global-2 : goal.returns-in_ok-clone-in-Global-2
returns-in_ok-clone-in-Global-2 c =
    ap (λ table. rest_of_kept_creating (kept.Global table c.in_ok-clone-in-Global-2.field-0)) c.in_ok-clone-in-Global.ensures.cases
    ∙ ap (λ columns. rest_of_kept_creating (kept.Global c.in-Global.table.now columns)) c.in_ok-clone-in-Global-2.ensures.cases
    ∙ ap rest_of_creating (sym c.in-Global.is)

pub returns-in_ok-clone-in-Schema-2 : goal.returns-in_ok-clone-in-Schema-2
returns-in_ok-clone-in-Schema-2 c =
    ap (λ table. rest_of_kept_creating (kept.Schema table c.in_ok-clone-in-Schema-2.field-0)) c.in_ok-clone-in-Schema.ensures.cases
    ∙ ap (λ columns. rest_of_kept_creating (kept.Schema c.in-Schema.table.now columns)) c.in_ok-clone-in-Schema-2.ensures.cases
    ∙ ap rest_of_creating (sym c.in-Schema.is)

pub returns-in_ok-clone-in-Table : goal.returns-in_ok-clone-in-Table
returns-in_ok-clone-in-Table c =
    ap (λ columns. rest_of_kept_creating (kept.Table columns c.in-Table.schema)) c.in_ok-clone-in-Table.ensures.cases
    ∙ ap rest_of_creating (sym c.in-Table.is)

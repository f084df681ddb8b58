-- Laws of explanations.
use Rattle.std.specs.Prelude.{◌≡◌, ◌==◌, Bool, true, false, List}
use Rattle.std.specs.List.{count_by}
use Rattle.mdl_syntax.specs.declared.statement.Statement.{Statement}
use Rattle.mdl_plans.specs.declared.step.Keys.{Keys}
use Rattle.mdl_plans.specs.declared.step.Step.{Step}
use Rattle.mdl_plans.specs.declared.step.Step.TheVariants as step
use Rattle.mdl_plans.specs.Plans.{plan_of}
use Rattle.mdl_explain.specs.Explanations.{is_planned_by_read_lock, is_planned_by_tables, steps_text}

-- whether a step is more than a preparation of others
abbrev pub is_told : Step → Bool
is_told (step.Name which) = false
is_told step.KeepScopes = false
is_told _ = true

-- each other step has one line, and no line is of anything else
abbrev pub StepsAreLines : Type 0
StepsAreLines = (named : Keys) (steps : List Step) → count_by (λ byte. byte == 10) (steps_text named steps) ≡ count_by is_told steps

-- a session has the same plan with locked tables as without, and with the global read lock as without, unless the other plan is told
abbrev pub OtherPlansAreTold : Type 0
OtherPlansAreTold =
    ((at : Statement) (locked : Bool) → is_planned_by_read_lock at ≡ false → plan_of locked true at ≡ plan_of locked false at)
    × ((at : Statement) (read_lock : Bool) → is_planned_by_tables at ≡ false → plan_of true read_lock at ≡ plan_of false read_lock at)

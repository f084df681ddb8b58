-- What is written of the lines of a script: the steps of each statement's plan, a line of text for each, in their order.
use Rattle.std.specs.Prelude.{ℕ, Bool, true, false, List, [], ◌∷◌, ◌++◌, codes, flat_map, Result, Ok, Err}
use Rattle.std.specs.Fmt.{decimal}
use Rattle.mdl_lines.specs.declared.fault.LineError.{LineError}
use Rattle.mdl_syntax.specs.declared.script.Line.{Line}
use Rattle.mdl_syntax.specs.declared.statement.Statement.{Statement}
use Rattle.mdl_syntax.specs.declared.statement.Statement.TheVariants as statement
use Rattle.mdl_syntax.specs.Scripts.{parsed}
use Rattle.mdl_plans.specs.declared.step.Keys.{Keys}
use Rattle.mdl_plans.specs.declared.step.Keys.TheVariants as keys
use Rattle.mdl_plans.specs.declared.step.Step.{Step}
use Rattle.mdl_plans.specs.declared.step.Step.TheVariants as step
use Rattle.mdl_plans.specs.Plans.{plan_of}
use Rattle.mdl_explain.specs.Phrases.{mode_text, step_text}

-- the line of a mode and words, or none without words
abbrev pub words_line : List ℕ → List ℕ → List ℕ
words_line mode [] = []
words_line mode (byte ∷ words) = codes "  " ++ mode ++ (byte ∷ words) ++ codes "\n"

-- the line of a step, after steps that named these keys last
abbrev pub step_line : Keys → Step → List ℕ
step_line named step = words_line (mode_text named step) (step_text named step)

-- the keys named last, once a step is done
abbrev pub named_after : Keys → Step → Keys
named_after named (step.Name which) = which
named_after named _ = named

-- the lines of steps
abbrev pub steps_text : Keys → List Step → List ℕ
steps_text named [] = []
steps_text named (step ∷ steps) = step_line named step ++ steps_text (named_after named step) steps

-- a plan. That of TIMEOUT has no steps: the wait ends before. No plan locks named keys before it names some
unfoldable pub plan_text : List Step → List ℕ
plan_text [] = codes "  nothing is locked; if the session waits, its wait times out\n"
plan_text (step ∷ steps) = steps_text keys.Tables (step ∷ steps)

-- whether a session with locked tables has a plan of its own for a statement, and whether one with the global read lock has
abbrev pub is_planned_by_tables : Statement → Bool
is_planned_by_tables (statement.Select tables) = true
is_planned_by_tables (statement.Write table priority) = true
is_planned_by_tables (statement.AlterTable alteration) = true
is_planned_by_tables _ = false

abbrev pub is_planned_by_read_lock : Statement → Bool
is_planned_by_read_lock statement.FlushTablesWithReadLock = true
is_planned_by_read_lock _ = false

-- the plan of such a session behind its heading, if it is its own
unfoldable pub own_plan : Bool → List ℕ → List Step → List ℕ
own_plan true heading plan = heading ++ plan_text plan
own_plan false heading plan = []

-- the plans of a statement: that of most sessions, and those that differ from it
unfoldable pub plans_text : Statement → List ℕ
plans_text at =
    plan_text (plan_of false false at)
    ++ own_plan (is_planned_by_tables at) (codes "with locked tables:\n") (plan_of true false at)
    ++ own_plan (is_planned_by_read_lock at) (codes "with the global read lock:\n") (plan_of false true at)

-- a line of a script: its number and its session, and then the plans of its statement
unfoldable pub explanation : Line → List ℕ
explanation line = (codes "line " ++ decimal line.number ++ codes ", session " ++ decimal line.session ++ codes ":\n") ++ plans_text line.statement

-- what is written for a script that was read: nothing if a line is refused
abbrev pub explained : Result (List Line) (ℕ × LineError) → List ℕ
explained (Ok lines) = flat_map explanation lines
explained (Err refusal) = []

-- what is written for a script, given as bytes
abbrev pub output_of : List ℕ → List ℕ
output_of text = explained (parsed text)

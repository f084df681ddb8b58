-- What was put there, and the lines of the steps that are left.
use Rattle.std.proofs.Common.{◌≡◌, ◌++◌, drop}
use Rattle.mdl_plans.specs.declared.step.Keys.TheVariants.{Tables}
use Rattle.mdl_explain.specs.Explanations.{steps_text}
use Rattle.mdl_explain.proofs.plan_text.push_steps.Given as goal

abbrev pub invariant-loop-step : goal.invariant-loop-step
invariant-loop-step l = l.out.items ++ steps_text l.named (drop l.step-index l.steps) ≡ l.fn.out.items ++ steps_text Tables l.steps

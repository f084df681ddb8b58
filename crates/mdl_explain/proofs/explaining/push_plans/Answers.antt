-- The plans stand one behind the other.
use Rattle.std.proofs.Common.{◌≡◌, ◌++◌, ◌∙◌, Bool, List, ℕ, ap, ap₂, append_assoc}
use Rattle.std.proofs.lemmas.Result.{on_ok_weaker}
use Rattle.mdl_plans.specs.declared.step.Step.{Step}
use Rattle.mdl_explain.specs.Explanations.{own_plan, plan_text, plans_text}
use Rattle.mdl_explain.proofs.explaining.push_plans.Goals as goal

-- three texts, one behind the other
three : (old a b c x y z : List ℕ) → x ≡ old ++ a → y ≡ x ++ b → z ≡ y ++ c → z ≡ old ++ (a ++ b ++ c)
three old a b c x y z first next last =
    last ∙ ap (λ t. t ++ c) (next ∙ ap (λ t. t ++ b) first) ∙ ap (λ t. t ++ c) (append_assoc old a b) ∙ append_assoc old (a ++ b) c

-- a plan of one's own
own : (x y : List ℕ) (is means : Bool) (heading : List ℕ) (plan wants : List Step) → is ≡ means → plan ≡ wants → y ≡ x ++ own_plan is heading plan → y ≡ x ++ own_plan means heading wants
own x y is means heading plan wants same equal put = put ∙ ap₂ (λ b p. x ++ own_plan b heading p) same equal

pub returns : goal.returns
unfolding plans_text
returns c =
    let at = c.args.statement.now in
    on_ok_weaker c.push_own_plan-2.result
    (λ put. three c.args.out.now.items _ _ _ c.push_plan.new.out.items c.push_own_plan.new.out.items c.push_own_plan-2.new.out.items
    (c.in_ok-push_plan.ensures ∙ ap (λ p. c.args.out.now.items ++ plan_text p) c.plan_of.ensures)
    (own _ _ _ _ _ _ _ c.is_planned_by_tables.ensures c.plan_of-2.ensures c.in_ok-push_own_plan.ensures)
    (own _ _ _ _ _ _ _ c.is_planned_by_read_lock.ensures c.plan_of-3.ensures put))
    c.push_own_plan-2.ensures

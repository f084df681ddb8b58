-- A wait is given up first, where there is one.
use Rattle.std.proofs.Common.{sym, ◌∙◌, ap, subst}
use Rattle.std.specs.Prelude.{is_some}
use Rattle.mdl_space.specs.CoreMembers.{core_space}
use Rattle.mdl_context.specs.Contexts.{LeavesOthers}
use Rattle.mdl_context.proofs.OthersLemmas.{both-leave}
use Rattle.mdl_c_calls.proofs.LeaveLemmas.{run-idle, run-waiting}
use Rattle.mdl_c_calls.proofs.manager.contexts.give_all_up.Goals.{then-is_some, else-is_some}
use Rattle.mdl_c_calls.proofs.manager.contexts.give_all_up.Goals as goal

pub returns-clause-run : goal.returns-clause-run
returns-clause-run c =
    elim c.if-is_some.branch [
      | then-is_some w ↦
          run-waiting core_space.joins c.args.context.now c.if-is_some.context c.finish_all.new.self w.give_up-end.result c.args.space.now c.if-is_some.space c.finish_all.new.space
          (ap is_some (sym c.wish.ensures) ∙ sym c.is_some.ensures ∙ w.if-is_some.true)
          (rw (w.context-is, w.space-is) w.give_up-end.ensures.run)
          c.finish_all.ensures.run
      | else-is_some w ↦
          run-idle core_space.joins c.args.context.now c.finish_all.new.self c.args.space.now c.finish_all.new.space
          (ap is_some (sym c.wish.ensures) ∙ sym c.is_some.ensures ∙ w.if-is_some.false)
          (rw (w.context-is, w.space-is) at c.finish_all.ensures.run)
    ]

pub returns-clause-others : goal.returns-clause-others
returns-clause-others c =
    elim c.if-is_some.branch [
      | then-is_some w ↦
          both-leave core_space c.args.context.now.who c.args.space.now c.if-is_some.space c.finish_all.new.space
          (rw w.space-is w.give_up-end.ensures.others)
          (subst (λ who. LeavesOthers core_space who c.if-is_some.space c.finish_all.new.space) (ap (λ context. context.who) w.context-is ∙ w.give_up-end.ensures.who) c.finish_all.ensures.others)
      | else-is_some w ↦ rw (w.context-is, w.space-is) at c.finish_all.ensures.others
    ]

pub returns-clause-who : goal.returns-clause-who
returns-clause-who c =
    elim c.if-is_some.branch [
      | then-is_some w ↦ c.finish_all.ensures.who ∙ ap (λ context. context.who) w.context-is ∙ w.give_up-end.ensures.who
      | else-is_some w ↦ c.finish_all.ensures.who ∙ ap (λ context. context.who) w.context-is
    ]

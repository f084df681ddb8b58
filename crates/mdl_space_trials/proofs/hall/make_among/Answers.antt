-- One context makes a call, and the others are served as before.
use Rattle.std.proofs.Common.{◌<◌, ◌-◌, ◌∙◌, length, arith, subst}
use Rattle.mdl_space.specs.CoreMembers.{core_space}
use Rattle.mdl_context.specs.Contexts.{LeavesOthers}
use Rattle.mdl_space_trials.proofs.contexts.HallLemmas.{served_at, served_then}
use Rattle.mdl_space_trials.proofs.hall.make_among.Goals as goal

pub make-requires : goal.make-requires
make-requires c = (served_at c.args.space.now 1 (c.from.result - 1) c.args.contexts.now _ c.requires.served (omega (arith, c.from.ensures, c.requires.least, c.requires.most))).1

pub returns : goal.returns
returns c =
    let inside : c.from.result - 1 < length c.args.contexts.now = omega (arith, c.from.ensures, c.requires.least, c.requires.most) in
    let at = served_at c.args.space.now 1 (c.from.result - 1) c.args.contexts.now c.index-contexts-from.result c.requires.served inside in
    record {
      served = served_then c.args.space.now c.make.new.space 1 (c.from.result - 1) c.args.contexts.now c.make.new.context c.requires.served inside
          (c.make.ensures.who ∙ at.0) c.make.ensures.attends (subst (λ n. LeavesOthers core_space n c.args.space.now c.make.new.space) at.0 c.make.ensures.others);
    }
